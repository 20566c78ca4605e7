use Rattle.std.proofs.Common.{◌≡◌, map, take}
use Rattle.shard_core.specs.RunSteps.{tail_of}
use Rattle.shard_core.proofs.run_delivery.spell.Given as goal

-- those of the jobs so far
abbrev pub invariant-loop-place : goal.invariant-loop-place
invariant-loop-place l = l.tails ≡ map tail_of (take l.place l.jobs)
