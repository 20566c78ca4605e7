use Rattle.std.proofs.Common.{◌≡◌, length}
use Rattle.claim_cells.specs.Calls.{AllOf, Gathers}
use Rattle.claim_cells.proofs.cells.Cells.gather.Given as goal

abbrev pub decreases-loop-other : goal.decreases-loop-other
decreases-loop-other l = length l.seats.items

abbrev pub invariant-loop-other : goal.invariant-loop-other
invariant-loop-other l =
    (l.place.table_id ≡ l.table.shared.table_id)
    × AllOf l.fn.self l.seats.items
    × Gathers l.fn.hub.part l.fn.seats.items l.seats.items l.place.me.0
