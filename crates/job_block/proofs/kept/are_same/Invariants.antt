use Rattle.std.proofs.Common.{◌≡◌, ℕ, ◌<◌, [], get_or}
use Rattle.job_block.proofs.kept.are_same.Given as goal

-- those before the place are the same
abbrev pub invariant-loop-place : goal.invariant-loop-place
invariant-loop-place l = (k : ℕ) → k < l.place → get_or l.fn.names k [] ≡ get_or l.fn.others k []
