use Rattle.node_net.proofs.WorkLemmas.{between_more}
use Rattle.node_net.proofs.server.Server.work_between.Goals as goal

pub loop-place-preserved : goal.loop-place-preserved
loop-place-preserved g c =
    between_more g.C.Shard.ShardCalls.worked g.C.Shard.ShardCalls.number (g.C.ServerCalls.lacks c.args.node)
    c.loop-place.is_unfinished c.work_one-is_unfinished.result c.args.from c.loop-place.place c.loop-place.invariant
    c.work_one-is_unfinished.ensures
