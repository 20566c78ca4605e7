-- The first CR LF of some bytes, and a search for it.
use Rattle.std.proofs.Common.{◌≡◌, ℕ, zero, suc, ◌+◌, ◌-◌, ◌<◌, ◌≤◌, Bool, true, false, List, [], ◌∷◌, ◌++◌, length, take, drop, get_or, slice_range, if◌then◌else◌, Option, Some, None, refl, sym, ap, ◌∙◌, arith, inl, inr, eqb-true, eq-eqb}
use Rattle.std.proofs.lemmas.Bool.{false≢true, cases_Bool, cases_lt}
use Rattle.std.proofs.lemmas.Bool.Decides.{nat_tests}
use Rattle.std.proofs.lemmas.List.{get_or-take, get_or-drop, get_or_append_left, length-take, length-drop, length-append}
use Rattle.std.specs.Option.{option_map}
use Rattle.memchr.specs.Find.{IsFirstByte, is_byte}
use Rattle.wire_cut.specs.Cut.{begins_with_cr_lf, first_cr_lf}
use Rattle.wire_cut.specs.Search.{HasCrLfAt, HasNoCrLf}

-- ---- CR LF at the front

pub begins_with_cr_lf-yes : (bytes : List ℕ) → HasCrLfAt bytes 0 → begins_with_cr_lf bytes ≡ true
begins_with_cr_lf-yes [] at = absurd (omega (arith, at.within))
begins_with_cr_lf-yes (x ∷ []) at = absurd (omega (arith, at.within))
begins_with_cr_lf-yes (x ∷ y ∷ rest) at = rw (at.cr, at.lf) refl

pub HasCrLfAt-front : (bytes : List ℕ) → begins_with_cr_lf bytes ≡ true → HasCrLfAt bytes 0
HasCrLfAt-front [] is = absurd (false≢true is)
HasCrLfAt-front (x ∷ []) is = absurd (false≢true (grind (arith, nat_tests, is)))
HasCrLfAt-front (x ∷ y ∷ rest) is = record {
  within = omega arith;
  cr = grind (arith, nat_tests, is);
  lf = grind (arith, nat_tests, is);
}

pub begins_with_cr_lf-no : (bytes : List ℕ) → (HasCrLfAt bytes 0 → ⊥) → begins_with_cr_lf bytes ≡ false
begins_with_cr_lf-no bytes none =
    elim (cases_Bool (begins_with_cr_lf bytes)) [ inl is ↦ absurd (none (HasCrLfAt-front bytes is)) | inr is ↦ is ]

-- ---- the first CR LF

later : (x : ℕ) (bytes : List ℕ) (k : ℕ) → HasCrLfAt bytes k → HasCrLfAt (x ∷ bytes) (suc k)
later x bytes k at = record { within = omega (arith, at.within); cr = at.cr; lf = at.lf }

earlier : (x : ℕ) (bytes : List ℕ) (k : ℕ) → HasCrLfAt (x ∷ bytes) (suc k) → HasCrLfAt bytes k
earlier x bytes k at = record { within = omega (arith, at.within); cr = at.cr; lf = at.lf }

pub first_cr_lf-found : (bytes : List ℕ) (i : ℕ)
    → HasCrLfAt bytes i
    → ((k : ℕ) → k < i → HasCrLfAt bytes k → ⊥)
    → first_cr_lf bytes ≡ Some i
unfolding first_cr_lf
first_cr_lf-found [] i at none = absurd (omega (arith, at.within))
first_cr_lf-found (x ∷ xs) zero at none = rw (begins_with_cr_lf-yes (x ∷ xs) at) refl
first_cr_lf-found (x ∷ xs) (suc i) at none =
    let not_here : begins_with_cr_lf (x ∷ xs) ≡ false = begins_with_cr_lf-no (x ∷ xs) (none 0 (omega arith)) in
    let rest : first_cr_lf xs ≡ Some i =
    first_cr_lf-found xs i (earlier x xs i at) (λ k h here. none (suc k) (omega arith) (later x xs k here)) in
    rw (not_here, rest) refl

pub first_cr_lf-none : (bytes : List ℕ) → ((k : ℕ) → HasCrLfAt bytes k → ⊥) → first_cr_lf bytes ≡ None
unfolding first_cr_lf
first_cr_lf-none [] none = refl
first_cr_lf-none (x ∷ xs) none =
    let not_here : begins_with_cr_lf (x ∷ xs) ≡ false = begins_with_cr_lf-no (x ∷ xs) (none 0) in
    let rest : first_cr_lf xs ≡ None = first_cr_lf-none xs (λ k here. none (suc k) (later x xs k here)) in
    rw (not_here, rest) refl

split_None : (b : Bool) (r : Option ℕ)
    → (if b then Some 0 else option_map (λ i. suc i) r) ≡ None
    → (b ≡ false) × (r ≡ None)
split_None true r is = absurd cc
split_None false None is = (refl, refl)
split_None false (Some i) is = absurd cc

split_here : (b : Bool) (r : Option ℕ) → (if b then Some 0 else option_map (λ i. suc i) r) ≡ Some 0 → b ≡ true
split_here true r is = refl
split_here false None is = absurd cc
split_here false (Some i) is = let same : suc i ≡ 0 = cc in absurd (omega arith)

split_later : (b : Bool) (r : Option ℕ) (i : ℕ)
    → (if b then Some 0 else option_map (λ i. suc i) r) ≡ Some (suc i)
    → (b ≡ false) × (r ≡ Some i)
split_later true r i is = let same : 0 ≡ suc i = cc in absurd (omega arith)
split_later false None i is = absurd cc
split_later false (Some j) i is =
    let same : suc j ≡ suc i = cc in let equal : j ≡ i = omega arith in (refl, ap (λ k. Some k) equal)

not_at_front : (bytes : List ℕ) → begins_with_cr_lf bytes ≡ false → HasCrLfAt bytes 0 → ⊥
not_at_front bytes isnt at = false≢true (sym isnt ∙ begins_with_cr_lf-yes bytes at)

none_before_later : (x : ℕ) (xs : List ℕ) (i : ℕ)
    → begins_with_cr_lf (x ∷ xs) ≡ false
    → ((k : ℕ) → k < i → HasCrLfAt xs k → ⊥)
    → (k : ℕ)
    → k < suc i
    → HasCrLfAt (x ∷ xs) k
    → ⊥
none_before_later x xs i isnt none zero h at = not_at_front (x ∷ xs) isnt at
none_before_later x xs i isnt none (suc k) h at = none k (omega arith) (earlier x xs k at)

-- the answer tells that CR LF stands there, and nowhere before
pub first_cr_lf-Some : (bytes : List ℕ) (i : ℕ)
    → first_cr_lf bytes ≡ Some i
    → HasCrLfAt bytes i × ((k : ℕ) → k < i → HasCrLfAt bytes k → ⊥)
unfolding first_cr_lf
first_cr_lf-Some [] i is = absurd cc
first_cr_lf-Some (x ∷ xs) zero is = (HasCrLfAt-front (x ∷ xs) (split_here _ (first_cr_lf xs) is), λ k h at. omega arith)
first_cr_lf-Some (x ∷ xs) (suc i) is =
    let parts = split_later (begins_with_cr_lf (x ∷ xs)) (first_cr_lf xs) i is in
    let rest = first_cr_lf-Some xs i parts.1 in (
      later x xs i rest.0,
      none_before_later x xs i parts.0 rest.1,
    )

pub first_cr_lf-None : (bytes : List ℕ) → first_cr_lf bytes ≡ None → (k : ℕ) → HasCrLfAt bytes k → ⊥
unfolding first_cr_lf
first_cr_lf-None [] is k at = omega (arith, at.within)
first_cr_lf-None (x ∷ xs) is zero at = not_at_front (x ∷ xs) (split_None _ (first_cr_lf xs) is).0 at
first_cr_lf-None (x ∷ xs) is (suc k) at =
    first_cr_lf-None xs (split_None (begins_with_cr_lf (x ∷ xs)) (first_cr_lf xs) is).1 k (earlier x xs k at)

-- ---- a part of the bytes, and more of them

pub HasCrLfAt-take : (bytes : List ℕ) (n k : ℕ) → k + 2 ≤ n → HasCrLfAt bytes k → HasCrLfAt (take n bytes) k
HasCrLfAt-take bytes n k h at = record {
  within = omega (arith, at.within, length-take n bytes);
  cr = get_or-take n bytes k 0 (omega arith) ∙ at.cr;
  lf = get_or-take n bytes (suc k) 0 (omega arith) ∙ at.lf;
}

pub HasCrLfAt-whole : (bytes : List ℕ) (n k : ℕ) → HasCrLfAt (take n bytes) k → HasCrLfAt bytes k
HasCrLfAt-whole bytes n k at =
    let inside : k + 2 ≤ n = omega (arith, at.within, length-take n bytes) in record {
      within = omega (arith, at.within, length-take n bytes);
      cr = sym (get_or-take n bytes k 0 (omega arith)) ∙ at.cr;
      lf = sym (get_or-take n bytes (suc k) 0 (omega arith)) ∙ at.lf;
    }

pub HasCrLfAt-append : (bytes more : List ℕ) (k : ℕ) → HasCrLfAt bytes k → HasCrLfAt (bytes ++ more) k
HasCrLfAt-append bytes more k at = record {
  within = omega (arith, at.within, length-append bytes more);
  cr = get_or_append_left bytes more 0 k (omega (arith, at.within)) ∙ at.cr;
  lf = get_or_append_left bytes more 0 (suc k) (omega (arith, at.within)) ∙ at.lf;
}

pub HasCrLfAt-front_part : (bytes more : List ℕ) (k : ℕ)
    → k + 2 ≤ length bytes
    → HasCrLfAt (bytes ++ more) k
    → HasCrLfAt bytes k
HasCrLfAt-front_part bytes more k h at = record {
  within = h;
  cr = sym (get_or_append_left bytes more 0 k (omega arith)) ∙ at.cr;
  lf = sym (get_or_append_left bytes more 0 (suc k) (omega arith)) ∙ at.lf;
}

-- ---- a search for LF, which looks back for CR

-- a byte of the rest of a list
get_or-rest : (bytes : List ℕ) (from k : ℕ)
    → from + k < length bytes
    → get_or (slice_range bytes from (length bytes)) k 0 ≡ get_or bytes (from + k) 0
get_or-rest bytes from k h =
    get_or-take (length bytes - from) (drop from bytes) k 0 (omega arith) ∙ get_or-drop from bytes k 0

length-rest : (bytes : List ℕ) (from : ℕ) → length (slice_range bytes from (length bytes)) ≡ length bytes - from
length-rest bytes from = omega (arith, length-take (length bytes - from) (drop from bytes), length-drop from bytes)

module _ (bytes : List ℕ) (from offset : ℕ) (within : from ≤ length bytes) (none : HasNoCrLf bytes from)
    (first : IsFirstByte (is_byte 10) (slice_range bytes from (length bytes)) (Some offset)) where
  pub in_range : from + offset < length bytes
  in_range = omega (arith, length-rest bytes from, first.0.high)

  lf_there : get_or bytes (from + offset) 0 ≡ 10
  lf_there = sym (get_or-rest bytes from offset in_range) ∙ eqb-true _ _ first.1

  -- no LF stands between
  no_lf_before : (k : ℕ) → from ≤ k → k < from + offset → get_or bytes k 0 ≡ 10 → ⊥
  no_lf_before k low high is =
      let place : from + (k - from) ≡ k = omega arith in
      let reads : get_or (slice_range bytes from (length bytes)) (k - from) 0 ≡ 10 =
      get_or-rest bytes from (k - from) (omega (arith, in_range)) ∙ ap (λ i. get_or bytes i 0) place ∙ is in
      first.0.before (k - from) (omega arith) (omega arith) (eq-eqb _ _ reads)

  none_before : (k : ℕ) → suc k < from + offset → HasCrLfAt bytes k → ⊥
  none_before k high at =
      elim (cases_lt (suc k) from) [
        | inl here ↦ none k (omega arith) at
        | inr past ↦ no_lf_before (suc k) past high at.lf
      ]

  pub found_at : 0 < from + offset
      → get_or bytes (from + offset - 1) 0 ≡ 13
      → Some (from + offset - 1) ≡ first_cr_lf bytes
  found_at some cr =
      let place : suc (from + offset - 1) ≡ from + offset = omega arith in
      let at : HasCrLfAt bytes (from + offset - 1) = record {
        within = omega (arith, in_range);
        cr = cr;
        lf = ap (λ i. get_or bytes i 0) place ∙ lf_there;
      } in
      sym (first_cr_lf-found bytes (from + offset - 1) at (λ k h. none_before k (omega arith)))

  pub none_up_to : (0 < from + offset → get_or bytes (from + offset - 1) 0 ≡ 13 → ⊥)
      → HasNoCrLf bytes (from + offset + 1)
  none_up_to no_cr k h at =
      elim (cases_lt (suc k) (from + offset)) [
        | inr last ↦
            (let place : k ≡ from + offset - 1 = omega arith in
            no_cr (omega arith) (ap (λ i. get_or bytes i 0) (sym place) ∙ at.cr))
        | inl before ↦ none_before k before at
      ]

pub none_at_all : (bytes : List ℕ) (from : ℕ)
    → from ≤ length bytes
    → HasNoCrLf bytes from
    → IsFirstByte (is_byte 10) (slice_range bytes from (length bytes)) None
    → None ≡ first_cr_lf bytes
none_at_all bytes from within none nowhere =
    sym (first_cr_lf-none bytes (λ k at. elim (cases_lt (suc k) from) [
      | inr past ↦ (let place : from + (suc k - from) ≡ suc k = omega arith in
          let inside : suc k < length bytes = omega (arith, at.within) in
          let reads : get_or (slice_range bytes from (length bytes)) (suc k - from) 0 ≡ 10 =
          get_or-rest bytes from (suc k - from) (omega arith) ∙ ap (λ i. get_or bytes i 0) place ∙ at.lf in
          nowhere (suc k - from) (omega arith) (omega (arith, length-rest bytes from)) (eq-eqb _ _ reads))
      | inl here ↦ none k (omega arith) at
    ]))
