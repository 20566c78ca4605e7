use Rattle.claim_cells.proofs.SeatSteps.Behind.{NearSome}
use Rattle.claim_cells.proofs.steps.first_behind.Given as goal

-- no shard so far is too far behind
abbrev pub invariant-loop-before : goal.invariant-loop-before
invariant-loop-before l = NearSome l.issued l.finished l.before
