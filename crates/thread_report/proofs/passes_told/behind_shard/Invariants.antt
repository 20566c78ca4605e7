use Rattle.std.proofs.Common.{◌≡◌, ◌++◌, take}
use Rattle.shard_core.specs.Shards.{new_shard}
use Rattle.thread_report.specs.ShardAnswers.{state_after}
use Rattle.thread_report.specs.Owed.{owed_by_shard}
use Rattle.thread_report.proofs.passes_told.behind_shard.Given as goal

abbrev pub invariant-loop-place : goal.invariant-loop-place
invariant-loop-place g l =
    (l.calls ≡ owed_by_shard l.number 0 (new_shard l.number l.shards) (take l.place l.tape) ++ l.rest)
    × (l.shard.state ≡ state_after (new_shard l.number l.shards) (take l.place l.tape))
