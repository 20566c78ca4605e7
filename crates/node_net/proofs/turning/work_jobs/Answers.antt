use Rattle.std.proofs.Common.{arith}
use Rattle.node_net.proofs.WorkLemmas.{works_all}
use Rattle.node_net.proofs.turning.work_jobs.Goals as goal

pub returns : goal.returns
returns g c =
    works_all g.H.ShardCalls.worked c.loop-turn.worked.is_unfinished c.args.shard.now c.loop-turn.shard
    c.loop-turn._turn c.loop-turn.invariant (omega (arith, c.loop-turn-test.false))
