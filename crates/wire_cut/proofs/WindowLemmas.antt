-- A part of a list that moves on, grows or is looked back at.
use Rattle.std.proofs.Common.{◌≡◌, ℕ, ◌+◌, ◌-◌, ◌≤◌, List, ◌++◌, length, take, drop, slice_range, refl, sym, ap, ◌∙◌, append-nil, add-zero, arith}
use Rattle.std.proofs.lemmas.List.{take-take, take-append-le, drop-append-le, length-take-le, drop-take, drop-drop, length-take, length-append, take_at, drop_at}
use Rattle.std.proofs.lemmas.Slice.{between_is}
use Rattle.std.proofs.lemmas.Grind.{common_steps}
use Rattle.std.proofs.Math.Seq.{take-add, take-append-add}
use borrow.Rule.Slice.PartMut.{put_mid, post_of}

slice_range_bound : (xs : List ℕ) (start count end : ℕ)
    → start ≤ end
    → count ≤ length (slice_range xs start end)
    → start + count ≤ end
slice_range_bound xs start count end order h = omega (arith, length-take (end - start) (drop start xs))

-- the front that was used up grows by what is used next
pub take-slice_range : (xs : List ℕ) (start count end : ℕ) → start ≤ end → count ≤ length (slice_range xs start end)
    → take (start + count) xs ≡ take start xs ++ take count (slice_range xs start end)
take-slice_range xs start count end order h =
    let within = slice_range_bound xs start count end order h in
    take-add start count xs
    ∙ ap (λ ys. take start xs ++ ys) (sym (take-take count (end - start) (drop start xs) (omega arith)))

-- the rest of a part begins further on
pub drop-slice_range : (xs : List ℕ) (start count end : ℕ) → start ≤ end → count ≤ length (slice_range xs start end)
    → slice_range xs (start + count) end ≡ drop count (slice_range xs start end)
drop-slice_range xs start count end order h =
    let within = slice_range_bound xs start count end order h in
    let rest = end - (start + count) in
    let split : end - start ≡ count + rest = omega arith in
    sym (ap (λ n. drop count (take n (drop start xs))) split ∙ drop-take count rest (drop start xs)
    ∙ ap (take rest) (drop-drop count start xs))

-- the front of what was written behind a part makes the part longer
grown : (xs ys : List ℕ) (at end k n : ℕ)
    → at ≤ end
    → end ≤ length xs
    → n ≤ length ys
    → slice_range (put_mid end k xs ys) at (end + n) ≡ slice_range xs at end ++ take n ys
grown xs ys at end k n order within part =
    let front_length : length (take end xs) ≡ end = length-take-le end xs within in
    let cut : take (end + n) (put_mid end k xs ys) ≡ take end xs ++ take n ys =
    ap (λ m. take (m + n) (put_mid end k xs ys)) (sym front_length)
    ∙ take-append-add (take end xs) (ys ++ post_of end k xs) n
    ∙ ap (λ zs. take end xs ++ zs) (take-append-le n ys (post_of end k xs) part) in
    between_is (put_mid end k xs ys) at (end + n)
    ∙ ap (drop at) cut
    ∙ drop-append-le at (take end xs) (take n ys) (omega arith)
    ∙ ap (λ zs. zs ++ take n ys) (sym (between_is xs at end))

-- the same in the items of a vector of `len`, which keeps its length
pub grown_items : (items xs ys was : List ℕ) (len at end k n : ℕ)
    → at ≤ end
    → end + k ≤ len
    → length items ≡ len
    → xs ≡ items
    → length ys ≡ k
    → n ≤ k
    → slice_range items at end ≡ was
    → slice_range (take len (put_mid end k xs ys ++ drop (length (put_mid end k xs ys)) items)) at (end + n)
    ≡ was ++ take n ys
grown_items items xs ys was len at end k n order within size same_items same_size part before =
    let whole : length (put_mid end k xs ys) ≡ len = grind (arith, common_steps) in
    let as_it_is : take len (put_mid end k xs ys ++ drop (length (put_mid end k xs ys)) items) ≡ put_mid end k xs ys =
    take_at (put_mid end k xs ys) _ len whole in
    let inside : end ≤ length items = omega arith in
    rw (as_it_is, same_items) (grown items ys at end k n order inside (omega arith) ∙ ap (λ zs. zs ++ take n ys) before)

-- what was written behind a part leaves it
pub kept_items : (items xs ys was : List ℕ) (len at end k : ℕ)
    → at ≤ end → end + k ≤ len → length items ≡ len → xs ≡ items → length ys ≡ k → slice_range items at end ≡ was
    → slice_range (take len (put_mid end k xs ys ++ drop (length (put_mid end k xs ys)) items)) at end ≡ was
kept_items items xs ys was len at end k order within size same_items same_size before =
    let written = take len (put_mid end k xs ys ++ drop (length (put_mid end k xs ys)) items) in
    ap (λ n. slice_range written at n) (sym (add-zero end))
    ∙ grown_items items xs ys was len at end k 0 order within size same_items same_size (omega arith) before
    ∙ append-nil was

-- what was used up last stands at the end of what was used up
pub used_last : (used unread all : List ℕ) (back count : ℕ)
    → back ≤ length unread
    → count ≤ back
    → all ≡ used ++ take back unread
    → take count (drop (length all - back) all) ≡ take count unread
used_last used unread all back count within part is =
    let last : length all - back ≡ length used =
    omega (arith, ap length is, length-append used (take back unread), length-take back unread) in
    ap (λ n. take count (drop n all)) last
    ∙ ap (λ bytes. take count (drop (length used) bytes)) is
    ∙ ap (take count) (drop_at used (take back unread) (length used) refl)
    ∙ take-take count back unread part

pub used_enough : (used unread all : List ℕ) (back : ℕ)
    → back ≤ length unread
    → all ≡ used ++ take back unread
    → back ≤ length all
used_enough used unread all back within is =
    omega (arith, ap length is, length-append used (take back unread), length-take back unread)
