use Rattle.std.proofs.Common.{◌≡◌}
use Rattle.claim_cells.specs.Steps.{finished_more}
use Rattle.claim_cells.proofs.cells.Cells.finish_many.Given as goal

abbrev pub invariant-loop-turn : goal.invariant-loop-turn
invariant-loop-turn l = (l.seat.race ≡ l.fn.seat.race) × (l.seat.part ≡ finished_more l._turn l.fn.seat.part)
