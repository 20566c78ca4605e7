use Rattle.std.proofs.Common.{sym, subst}
use Rattle.claim_cells.specs.Steps.{part_of}
use Rattle.claim_cells.specs.Seats.{ShardShown, HasTurn}
use Rattle.claim_cells.proofs.SeatSteps.Kept.{sighted}
use Rattle.claim_cells.proofs.cells.Cells.is_lost.Goals as goal

pub lose_at-requires-clause-seen : goal.lose_at-requires-clause-seen
lose_at-requires-clause-seen c =
    sighted (part_of c.seat.inside.place.me)
    (subst (λ (v : ShardShown). HasTurn v.part) (sym c.seat.view_is) c.requires.turn)
