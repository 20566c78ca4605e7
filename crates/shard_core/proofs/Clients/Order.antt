-- Connections in order of their numbers: where a binary search ends.
use Rattle.std.proofs.Common.{◌≡◌, ℕ, ◌∙◌, ◌<◌, ◌≤◌, ◌==◌, Bool, true, false, List, [], ◌∷◌, length, map, get_or, Some, None, Result, Ok, Err, refl, sym, ap, arith}
use Rattle.std.specs.Prelude.{nat_lt, position, slice_index_or}
use Rattle.std.specs.List.{position_or_len}
use Rattle.std.specs.List.Sorted.{IsSearchInRange, IsBinarySearchResult, IsNonDecreasingBy}
use Rattle.std.specs.Ordering.{nat_cmp, ordering_index}
use Rattle.std.specs.Result.{result_ok}
use Rattle.std.proofs.lemmas.Bool.Decides.{nat_tests}
use Rattle.std.proofs.lemmas.Cmp.{ranked}
use Rattle.std.proofs.lemmas.List.{get_or-map, length-map}
use Rattle.std.proofs.lemmas.List.Sorted.{IsNonDecreasingBy-from_default}
use Rattle.std.proofs.lemmas.List.Sums.{position_or_len_is}
use Rattle.shard_core.specs.declared.connections.Conn.{Conn}
use Rattle.shard_core.specs.Boxes.{number_of, AreRising}

-- a place below the length, and one at it
at_place : {A : Type 0} (p : A → Bool) (xs : List A) (i : ℕ)
    → position_or_len p xs ≡ i
    → i < length xs
    → position p xs ≡ Some i
at_place p xs i is within = grind (arith, nat_tests)

at_none : {A : Type 0} (p : A → Bool) (xs : List A) → position_or_len p xs ≡ length xs → position p xs ≡ None
at_none p xs is = grind (arith, nat_tests)

differs : (a n : ℕ) → a < n → (a == n) ≡ false
differs a n lt = grind (arith, nat_tests)

differs_above : (a n : ℕ) → n < a → (a == n) ≡ false
differs_above a n lt = grind (arith, nat_tests)

is_same : (a n : ℕ) → a ≡ n → (a == n) ≡ true
is_same a n e = grind (arith, nat_tests)

abbrev number_at : List Conn → Conn → ℕ → ℕ
number_at conns d i = (get_or conns i d).number

module _ (conns : List Conn) (d : Conn) (rising : AreRising conns) (n : ℕ) where
  mapped : (i : ℕ) → i < length conns → get_or (map number_of conns) i d.number ≡ number_at conns d i
  mapped i within = get_or-map number_of conns i d d.number within

  rises : (i j : ℕ) → i < j → j < length conns → number_at conns d i < number_at conns d j
  rises i j lt within =
      omega (
        arith,
        mapped i (omega arith),
        mapped j within,
        rising i j d.number lt (omega (arith, length-map conns number_of)),
      )

  comparisons_rise : IsNonDecreasingBy (λ (c : Conn). ordering_index (nat_cmp c.number n)) conns
  comparisons_rise =
      IsNonDecreasingBy-from_default (λ (c : Conn). ordering_index (nat_cmp c.number n)) conns d (λ i j le within.
      let up : number_at conns d i ≤ number_at conns d j =
      grind (arith, rises i j, λ (same : i ≡ j). ap (number_at conns d) same) in
      grind (arith, nat_tests))

  -- where its number stands is its place
  known_at : (at : ℕ)
      → at < length conns
      → number_at conns d at ≡ n
      → position (λ (c : Conn). c.number == n) conns ≡ Some at
  known_at at within same =
      at_place (λ (c : Conn). c.number == n) conns at
      (position_or_len_is (λ (c : Conn). c.number == n) conns at d (omega arith)
      (λ k lt. differs (number_at conns d k) n (omega (arith, rises k at lt within, same)))
      (λ lt. is_same (number_at conns d at) n same))
      within

  searched : (r : Result ℕ ℕ)
      → IsSearchInRange r (length conns)
      → IsBinarySearchResult (λ (c : Conn). nat_cmp c.number n) conns r
      → result_ok r ≡ position (λ (c : Conn). c.number == n) conns
  searched (Ok at) within equal =
      let same : number_at conns d at ≡ n = ranked (number_at conns d at) n _ (sym (equal d)) in
      sym (known_at at within same)
  searched (Err at) within parted =
      sym (at_none (λ (c : Conn). c.number == n) conns
      (position_or_len_is (λ (c : Conn). c.number == n) conns (length conns) d (omega arith) (λ k lt. apart k lt)
      (λ lt. absurd (omega arith))))
    where
      apart : (k : ℕ) → k < length conns → (number_at conns d k == n) ≡ false
      apart k lt = by (nat_lt k at) refl where
        by : (b : Bool) → nat_lt k at ≡ b → (number_at conns d k == n) ≡ false
        by true e =
            differs (number_at conns d k) n
            (ranked (number_at conns d k) n _
            (sym ((parted comparisons_rise).0 k d (omega arith) (grind (arith, nat_tests)))))
        by false e =
            differs_above (number_at conns d k) n
            (ranked (number_at conns d k) n _ (sym ((parted comparisons_rise).1 k d (grind (arith, nat_tests)) lt)))

-- what a binary search by number answers is the place
pub place_found : (conns : List Conn) (n : ℕ)
    → AreRising conns
    → (r : Result ℕ ℕ)
    → IsSearchInRange r (length conns)
    → IsBinarySearchResult (λ (c : Conn). nat_cmp c.number n) conns r
    → result_ok r ≡ position (λ (c : Conn). c.number == n) conns
place_found [] n rising (Ok at) within equal = absurd (omega arith)
place_found [] n rising (Err at) within parted = refl
place_found (c ∷ cs) n rising r within is = searched (c ∷ cs) c rising n r within is

numbers_same : (a n : ℕ) → (a == n) ≡ true → a ≡ n
numbers_same a n e = grind (arith, nat_tests)

-- a connection of the number that stands at a place is the one that a search finds
pub place_known : (conns : List Conn) (n i : ℕ) (x : Conn)
    → AreRising conns
    → i < length conns
    → x ≡ slice_index_or conns i x
    → (x.number == n) ≡ true
    → position (λ (c : Conn). c.number == n) conns ≡ Some i
place_known conns n i x rising within is same =
    known_at conns x rising n i within (ap (λ (c : Conn). c.number) (sym is) ∙ numbers_same x.number n same)
