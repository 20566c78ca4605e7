use Rattle.std.proofs.Common.{◌≡◌, ◌+◌, ℕ, []}
use Rattle.claim_cells.specs.Seats.{left_from}
use Rattle.claim_cells.specs.Calls.{AllNew}
use Rattle.claim_cells.proofs.cells.Cells.new.Given as goal

abbrev pub invariant-loop-before : goal.invariant-loop-before
invariant-loop-before l =
    (l.place.table_id ≡ l.cells-inside.table.shared.table_id)
    × ((n : ℕ) × (l.before + n ≡ l.shards) × (l.place.me ≡ (left_from (l.before + 1) n l.shards, [])))
    × AllNew (record { table = l.cells-inside.table.shared.table_id; shards = l.cells-inside.shards }) l.before
    l.seats.items
