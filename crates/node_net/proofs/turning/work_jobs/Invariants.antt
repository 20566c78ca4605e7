-- As often a job was worked to its end as the loop has turned.
use Rattle.node_net.proofs.WorkLemmas.{SoMany}
use Rattle.node_net.proofs.turning.work_jobs.Given as goal

abbrev pub invariant-loop-turn : goal.invariant-loop-turn
invariant-loop-turn g l = SoMany g.H.ShardCalls.worked l.fn.shard l.shard l._turn
