-- When the differences of two lists are all zero.
use Rattle.std.proofs.Common.{◌≡◌, ℕ, ◌≤◌, ◌+◌, Bool, List, length, refl, sym, ap, ◌∙◌, arith, get_or, below_more}
use Rattle.std.specs.Prelude.{bit_or, bit_xor, bit_and, nat_eq, ◌<◌}
use Rattle.std.specs.Str.{bytes_eq}
use Rattle.std.specs.Int.Bits.{or_zero_l, xor_zero_l, xor_zero_r, xor_self, xor_assoc, or_add_and}
use Rattle.std.proofs.lemmas.Nat.{and_le_l, and_le_r}
use Rattle.std.proofs.lemmas.Bool.Decides.{same_from_decides, Decides-like, Decides-eqb}
use Rattle.std.proofs.lemmas.Slice.Eq.{bytes_eq-Decides}
use Rattle.std.proofs.lemmas.Grind.{same_number_lists}

pub xor_is_zero : (a b : ℕ) → bit_xor a b ≡ 0 → a ≡ b
xor_is_zero a b none =
    sym (xor_zero_r a)
    ∙ ap (bit_xor a) (sym (xor_self b))
    ∙ sym (xor_assoc a b b)
    ∙ ap (λ c. bit_xor c b) none
    ∙ xor_zero_l b

pub left_of_or : (a b : ℕ) → bit_or a b ≡ 0 → a ≡ 0
left_of_or a b none = omega (arith, or_add_and a b, and_le_r a b, none)

pub right_of_or : (a b : ℕ) → bit_or a b ≡ 0 → b ≡ 0
right_of_or a b none = omega (arith, or_add_and a b, and_le_l a b, none)

-- no difference so far, and none here
pub none_more : (d a b : ℕ) → d ≡ 0 → a ≡ b → bit_or d (bit_xor a b) ≡ 0
none_more d a b none same =
    ap (λ c. bit_or c (bit_xor a b)) none ∙ or_zero_l (bit_xor a b) ∙ ap (λ c. bit_xor c b) same ∙ xor_self b

-- what the differences of the first so many bytes say
pub record Differs (d : ℕ) (a b : List ℕ) (count : ℕ) : Type 0 where
  pub apart : d ≡ 0 → (k : ℕ) → k < count → get_or a k 0 ≡ get_or b k 0
  pub same : ((k : ℕ) → k < count → get_or a k 0 ≡ get_or b k 0) → d ≡ 0

pub decides : (d : ℕ) (a b : List ℕ) (count : ℕ)
    → length a ≡ count
    → length b ≡ count
    → Differs d a b count
    → nat_eq d 0 ≡ bytes_eq a b
decides d a b count size others differs =
    same_from_decides {P = a ≡ b} (nat_eq d 0) (bytes_eq a b)
    (Decides-like (nat_eq d 0)
    (λ none. same_number_lists a b (size ∙ sym others) (λ k below. differs.apart none k (omega (arith, below, size))))
    (λ same. differs.same (λ k below. ap (λ xs. get_or xs k 0) same))
    (Decides-eqb d 0))
    (bytes_eq-Decides a b)

pub differs_more : (d : ℕ) (a b : List ℕ) (count : ℕ)
    → Differs d a b count
    → Differs (bit_or d (bit_xor (get_or a count 0) (get_or b count 0))) a b (count + 1)
differs_more d a b count differs = record {
  apart = λ none.
      below_more _ _ (differs.apart (left_of_or d (bit_xor (get_or a count 0) (get_or b count 0)) none))
      (xor_is_zero (get_or a count 0) (get_or b count 0)
      (right_of_or d (bit_xor (get_or a count 0) (get_or b count 0)) none));
  same = λ all.
      none_more d (get_or a count 0) (get_or b count 0) (differs.same (λ k below. all k (omega (arith, below))))
      (all count (omega arith));
}
