use Rattle.node_net.proofs.WorkLemmas.{collects_more}
use Rattle.node_net.proofs.server.Server.collect_all.Goals as goal

pub loop-place-preserved : goal.loop-place-preserved
loop-place-preserved g c =
    collects_more (g.C.ServerCalls.collected c.args.node) c.loop-place.place c.collect-done.ensures.0
    c.loop-place.invariant c.collect-done.ensures.1
