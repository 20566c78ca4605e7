use Rattle.std.proofs.Common.{◌≡◌, ℕ, ◌+◌, ◌<◌, length, slice_index}
use Rattle.claim_cells.proofs.closing.FinalTable.copy_claim_words.Given as goal

abbrev pub invariant-loop-place : goal.invariant-loop-place
invariant-loop-place l =
    (length l.cells.items ≡ length l.fn.cells.items)
    × ((c : ℕ) → c < l.place → slice_index l.cells.items c ≡ slice_index l.self (l.first + c))
