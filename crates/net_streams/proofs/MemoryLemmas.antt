-- A read from bytes in memory.
use Rattle.std.proofs.Common.{◌≡◌, ℕ, ◌+◌, ◌-◌, ◌≤◌, List, ◌++◌, length, take, drop, min, sym, ap, ◌∙◌, take-append-drop, arith}
use Rattle.std.proofs.lemmas.List.{take_at, drop-drop, length-take, length-drop, take_rest}

-- what came and what is left is what there was
pub read_front : (items copied buffer : List ℕ) (at n least most : ℕ)
    → at ≤ length items
    → least ≡ min (length (take (length items - at) (drop at items))) (length buffer)
    → n ≡ min least most
    → copied ≡ take n (take (length items - at) (drop at items))
    → drop at items ≡ take n (copied ++ drop n buffer) ++ drop (at + n) items
read_front items copied buffer at n least most within least_is count copied_is =
    let copied_length : length copied ≡ n = omega (
      arith,
      ap length copied_is,
      length-take n (take (length items - at) (drop at items)),
      length-take (length items - at) (drop at items),
      length-drop at items,
    ) in
    let front : take n (copied ++ drop n buffer) ≡ take n (drop at items) =
    take_at copied (drop n buffer) n copied_length ∙ copied_is ∙ ap (take n) (take_rest items at) in
    sym (take-append-drop n (drop at items))
    ∙ ap (λ xs. xs ++ drop n (drop at items)) (sym front)
    ∙ ap (λ xs. take n (copied ++ drop n buffer) ++ xs) (drop-drop n at items)
