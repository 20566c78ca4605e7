-- A read from bytes in memory.
use Rattle.std.proofs.Common.{◌≡◌, ℕ, ◌+◌, ◌-◌, ◌<◌, ◌≤◌, List, [], ◌++◌, length, take, drop, min, sym, ap, ◌∙◌, take-append-drop, arith}
use Rattle.std.proofs.lemmas.List.{take_at, drop-drop, drop_all, length-append, length-take, length-drop, take_rest}

module _ (items copied buffer : List ℕ) (at n least most : ℕ) (within : at ≤ length items)
    (least_is : least ≡ min (length (take (length items - at) (drop at items))) (length buffer))
    (count : n ≡ min least most) (copied_is : copied ≡ take n (take (length items - at) (drop at items))) where
  copied_length : length copied ≡ n
  copied_length =
      omega (
        arith,
        ap length copied_is,
        length-take n (take (length items - at) (drop at items)),
        length-take (length items - at) (drop at items),
        length-drop at items,
      )

  -- what came and what is left is what there was
  pub read_front : drop at items ≡ take n (copied ++ drop n buffer) ++ drop (at + n) items
  read_front =
      let front : take n (copied ++ drop n buffer) ≡ take n (drop at items) =
      take_at copied (drop n buffer) n copied_length ∙ copied_is ∙ ap (take n) (take_rest items at) in
      sym (take-append-drop n (drop at items))
      ∙ ap (λ xs. xs ++ drop n (drop at items)) (sym front)
      ∙ ap (λ xs. take n (copied ++ drop n buffer) ++ xs) (drop-drop n at items)

  -- nothing came into some room only at the end
  pub read_end : 0 < most → n ≡ 0 → 0 < length (copied ++ drop n buffer) → drop (at + n) items ≡ []
  read_end some none room =
      drop_all (at + n) items
      (omega (
        arith,
        length-append copied (drop n buffer),
        copied_length,
        length-drop n buffer,
        length-drop at items,
        length-take (length items - at) (drop at items),
      ))
