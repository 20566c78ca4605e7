use Rattle.std.proofs.Common.{◌≡◌, ℕ, ◌+◌, ◌<◌, List, length, slice_index}
use Rattle.claim_cells.specs.Calls.{finished_list}
use Rattle.claim_cells.proofs.closing.FinalTable.finished.Given as goal

abbrev pub invariant-loop-before : goal.invariant-loop-before
invariant-loop-before l =
    (found : List ℕ)
    × (length found ≡ l.before)
    × ((s : ℕ) → s < l.before → slice_index found s ≡ slice_index l.self (s + 1))
    × (l.finished ≡ finished_list found)
