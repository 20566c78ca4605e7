use Rattle.std.proofs.Common.{◌≡◌, ℕ, List}
use Rattle.claim_cells.specs.Calls.{IsRoundAt, finished_list}
use Rattle.claim_cells.proofs.cells.Cells.look_at_all.Given as goal

abbrev pub invariant-loop-before : goal.invariant-loop-before
invariant-loop-before l =
    (l.place.table_id ≡ l.fn.place.table_id)
    × ((found : List ℕ) × IsRoundAt l.before l.fn.place.me found l.place.me × (l.finished ≡ finished_list found))
