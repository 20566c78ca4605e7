-- Subscriptions in order of opening: what a change to the list changes.
use Rattle.std.proofs.Common.{◌≡◌, ℕ, ◌+◌, ◌<◌, Bool, true, false, cond, ◌&&◌, List, [], ◌∷◌, ◌++◌, Some, refl, ap, sym, ◌∙◌, arith, inl, inr, All}
use Rattle.std.specs.Prelude.{nat_lt, find, unwrap_or, filter}
use Rattle.std.specs.Bool.{nat_eq}
use Rattle.std.specs.Str.{bytes_eq}
use Rattle.std.specs.Cmp.Lexicographic.{nat_list_eq_equiv}
use Rattle.std.proofs.lemmas.Bool.{cases_Bool, cond-true, cond-false, and_parts, and_from}
use Rattle.std.proofs.lemmas.Bool.Decides.{nat_tests}
use Rattle.std.proofs.lemmas.List.Sums.{sum_by-append}
use Rattle.std.proofs.lemmas.List.Elements.{recursion_from_All}
use Rattle.std.specs.List.{AllByRecursion}
use Rattle.subj.specs.Keys.{cost_of}
use Rattle.sub_table.specs.declared.Subscription.{Subscription}
use Rattle.sub_table.specs.Subscriptions.{has_serial, without_serial, with_changed, total_cost}
use Rattle.pattern_trie.specs.Held.{without_held, is_held}
use Rattle.sub_trie.specs.Rising.{all_above, is_rising, held_of}

and_none : (b : Bool) → (b && false) ≡ false
and_none true = refl
and_none false = refl

sum_one : (n : ℕ) → 0 + n ≡ n
sum_one n = omega arith

pub cost_cons : (sub : Subscription) (subs : List Subscription)
    → total_cost (sub ∷ subs) ≡ cost_of sub.key + total_cost subs
cost_cons sub subs =
    sum_by-append (λ (s : Subscription). cost_of s.key) (sub ∷ []) subs
    ∙ ap (λ n. n + total_cost subs) (sum_one (cost_of sub.key))

-- ---- one more

above_push : (n : ℕ) (subs : List Subscription) (sub : Subscription)
    → all_above n subs ≡ true
    → n < sub.serial
    → all_above n (subs ++ sub ∷ []) ≡ true
above_push n [] sub all lt = and_from (nat_lt n sub.serial) true (grind (arith, nat_tests)) refl
above_push n (s ∷ subs) sub all lt =
    and_from (nat_lt n s.serial) (all_above n (subs ++ sub ∷ []))
    ((and_parts (nat_lt n s.serial) (all_above n subs) all).0)
    (above_push n subs sub ((and_parts (nat_lt n s.serial) (all_above n subs) all).1) lt)

rising_more : (subs : List Subscription) (sub : Subscription)
    → is_rising subs ≡ true
    → AllByRecursion (λ other. other.serial < sub.serial) subs
    → is_rising (subs ++ sub ∷ []) ≡ true
rising_more [] sub rising below = refl
rising_more (s ∷ subs) sub rising below =
    and_from (all_above s.serial (subs ++ sub ∷ [])) (is_rising (subs ++ sub ∷ []))
    (above_push s.serial subs sub ((and_parts (all_above s.serial subs) (is_rising subs) rising).0) below.0)
    (rising_more subs sub ((and_parts (all_above s.serial subs) (is_rising subs) rising).1) below.1)

pub rising_push : (subs : List Subscription) (sub : Subscription)
    → is_rising subs ≡ true
    → All (λ other. other.serial < sub.serial) subs
    → is_rising (subs ++ sub ∷ []) ≡ true
rising_push subs sub rising below =
    rising_more subs sub rising (recursion_from_All (λ (other : Subscription). other.serial < sub.serial) subs below)

pub held_push : (subs : List Subscription) (sub : Subscription)
    → held_of (subs ++ sub ∷ []) ≡ held_of subs ++ (sub.key.pattern, sub.serial) ∷ []
held_push [] sub = refl
held_push (s ∷ subs) sub = ap (λ hs. (s.key.pattern, s.serial) ∷ hs) (held_push subs sub)

pub cost_push : (subs : List Subscription) (sub : Subscription)
    → total_cost (subs ++ sub ∷ []) ≡ total_cost subs + cost_of sub.key
cost_push subs sub =
    sum_by-append (λ (s : Subscription). cost_of s.key) subs (sub ∷ [])
    ∙ ap (λ n. total_cost subs + n) (sum_one (cost_of sub.key))

-- ---- a change that keeps serials and keys

module _ (n : ℕ) (change : Subscription → Subscription)
    (same_serial : (s : Subscription) → (change s).serial ≡ s.serial)
    (same_key : (s : Subscription) → (change s).key ≡ s.key) where
  above_changed : (m : ℕ) (subs : List Subscription) → all_above m (with_changed n change subs) ≡ all_above m subs
  above_changed m [] = refl
  above_changed m (s ∷ subs) =
      elim (has_serial n s) as (λ b.
      all_above m (cond b (change s ∷ subs) (s ∷ with_changed n change subs))
      ≡ (nat_lt m s.serial && all_above m subs)) [
        | true ↦ ap (λ k. nat_lt m k && all_above m subs) (same_serial s)
        | false ↦ ap (λ b. nat_lt m s.serial && b) (above_changed m subs)
      ]

  pub rising_changed : (subs : List Subscription) → is_rising (with_changed n change subs) ≡ is_rising subs
  rising_changed [] = refl
  rising_changed (s ∷ subs) =
      elim (has_serial n s) as (λ b.
      is_rising (cond b (change s ∷ subs) (s ∷ with_changed n change subs))
      ≡ (all_above s.serial subs && is_rising subs)) [
        | true ↦ ap (λ k. all_above k subs && is_rising subs) (same_serial s)
        | false ↦
            ap (λ b. b && is_rising (with_changed n change subs)) (above_changed s.serial subs)
            ∙ ap (λ b. all_above s.serial subs && b) (rising_changed subs)
      ]

  pub held_changed : (subs : List Subscription) → held_of (with_changed n change subs) ≡ held_of subs
  held_changed [] = refl
  held_changed (s ∷ subs) =
      elim (has_serial n s) as (λ b.
      held_of (cond b (change s ∷ subs) (s ∷ with_changed n change subs)) ≡ (s.key.pattern, s.serial) ∷ held_of subs) [
        | true ↦
            ap (λ k. (k.pattern, (change s).serial) ∷ held_of subs) (same_key s)
            ∙ ap (λ m. (s.key.pattern, m) ∷ held_of subs) (same_serial s)
        | false ↦ ap (λ hs. (s.key.pattern, s.serial) ∷ hs) (held_changed subs)
      ]

  pub cost_changed : (subs : List Subscription) → total_cost (with_changed n change subs) ≡ total_cost subs
  cost_changed [] = refl
  cost_changed (s ∷ subs) =
      elim (has_serial n s) as
      (λ b. total_cost (cond b (change s ∷ subs) (s ∷ with_changed n change subs)) ≡ total_cost (s ∷ subs)) [
        | true ↦ cost_cons (change s) subs ∙ ap (λ k. cost_of k + total_cost subs) (same_key s) ∙ sym (cost_cons s subs)
        | false ↦
            cost_cons s (with_changed n change subs)
            ∙ ap (λ m. cost_of s.key + m) (cost_changed subs)
            ∙ sym (cost_cons s subs)
      ]

-- ---- one less

above_without : (m n : ℕ) (subs : List Subscription)
    → all_above m subs ≡ true
    → all_above m (without_serial n subs) ≡ true
above_without m n [] all = refl
above_without m n (s ∷ subs) all =
    elim (has_serial n s) as (λ b. all_above m (cond b subs (s ∷ without_serial n subs)) ≡ true) [
      | true ↦ (and_parts (nat_lt m s.serial) (all_above m subs) all).1
      | false ↦
          and_from (nat_lt m s.serial) (all_above m (without_serial n subs))
          ((and_parts (nat_lt m s.serial) (all_above m subs) all).0)
          (above_without m n subs ((and_parts (nat_lt m s.serial) (all_above m subs) all).1))
    ]

pub rising_without : (n : ℕ) (subs : List Subscription)
    → is_rising subs ≡ true
    → is_rising (without_serial n subs) ≡ true
rising_without n [] rising = refl
rising_without n (s ∷ subs) rising =
    let above = (and_parts (all_above s.serial subs) (is_rising subs) rising).0 in
    let rest = (and_parts (all_above s.serial subs) (is_rising subs) rising).1 in
    elim (has_serial n s) as (λ b. is_rising (cond b subs (s ∷ without_serial n subs)) ≡ true) [
      | true ↦ rest
      | false ↦
          and_from (all_above s.serial (without_serial n subs)) (is_rising (without_serial n subs))
          (above_without s.serial n subs above) (rising_without n subs rest)
    ]

first_is : (s sub : Subscription) → Some s ≡ Some sub → s ≡ sub
first_is s sub e = ap (λ o. unwrap_or o s) e

found_serial : (n : ℕ) (subs : List Subscription) (sub : Subscription)
    → find (has_serial n) subs ≡ Some sub
    → sub.serial ≡ n
found_serial n [] sub found = cc
found_serial n (s ∷ subs) sub found =
    elim (cases_Bool (has_serial n s)) [
      | inl so ↦
          ap (λ t. t.serial)
          (sym (first_is s sub (sym (cond-true (has_serial n s) (Some s) (find (has_serial n) subs) so) ∙ found)))
          ∙ grind (arith, nat_tests)
      | inr other ↦
          found_serial n subs sub (sym (cond-false (has_serial n s) (Some s) (find (has_serial n) subs) other) ∙ found)
    ]

itself : (s : Subscription) → is_held nat_eq s.key.pattern s.serial (s.key.pattern, s.serial) ≡ true
itself s =
    and_from (bytes_eq s.key.pattern s.key.pattern) (nat_eq s.serial s.serial) (nat_list_eq_equiv.refl s.key.pattern)
    (grind (arith, nat_tests))

pub held_without : (n : ℕ) (subs : List Subscription) (sub : Subscription)
    → find (has_serial n) subs ≡ Some sub
    → held_of (without_serial n subs) ≡ without_held nat_eq sub.key.pattern sub.serial (held_of subs)
held_without n [] sub found = cc
held_without n (s ∷ subs) sub found =
    elim (cases_Bool (has_serial n s)) [
      | inl so ↦
          let is = first_is s sub (sym (cond-true (has_serial n s) (Some s) (find (has_serial n) subs) so) ∙ found) in
          ap held_of (cond-true (has_serial n s) subs (s ∷ without_serial n subs) so)
          ∙ sym (ap (λ t. without_held nat_eq t.key.pattern t.serial (held_of (s ∷ subs))) (sym is)
          ∙ cond-true (is_held nat_eq s.key.pattern s.serial (s.key.pattern, s.serial)) (held_of subs)
          ((s.key.pattern, s.serial) ∷ without_held nat_eq s.key.pattern s.serial (held_of subs)) (itself s))
      | inr other ↦
          let rest : find (has_serial n) subs ≡ Some sub =
          sym (cond-false (has_serial n s) (Some s) (find (has_serial n) subs) other) ∙ found in
          let serial = found_serial n subs sub rest in
          let apart : nat_eq sub.serial s.serial ≡ false = grind (arith, nat_tests) in
          ap held_of (cond-false (has_serial n s) subs (s ∷ without_serial n subs) other)
          ∙ ap (λ hs. (s.key.pattern, s.serial) ∷ hs) (held_without n subs sub rest)
          ∙ sym (cond-false (is_held nat_eq sub.key.pattern sub.serial (s.key.pattern, s.serial)) (held_of subs)
          ((s.key.pattern, s.serial) ∷ without_held nat_eq sub.key.pattern sub.serial (held_of subs))
          (ap (λ b. bytes_eq sub.key.pattern s.key.pattern && b) apart
          ∙ and_none (bytes_eq sub.key.pattern s.key.pattern)))
    ]

-- what was held last, taken out again
held_below : (text : List ℕ) (n : ℕ) (subs : List Subscription)
    → AllByRecursion (λ other. other.serial < n) subs
    → without_held nat_eq text n (held_of subs ++ (text, n) ∷ []) ≡ held_of subs
held_below text n [] below =
    cond-true (bytes_eq text text && nat_eq n n) [] ((text, n) ∷ [])
    (and_from (bytes_eq text text) (nat_eq n n) (nat_list_eq_equiv.refl text) (grind (arith, nat_tests)))
held_below text n (s ∷ subs) below =
    let lower = below.0 in
    let apart : nat_eq n s.serial ≡ false = grind (arith, nat_tests) in
    cond-false (is_held nat_eq text n (s.key.pattern, s.serial)) (held_of subs ++ (text, n) ∷ [])
    ((s.key.pattern, s.serial) ∷ without_held nat_eq text n (held_of subs ++ (text, n) ∷ []))
    (ap (λ b. bytes_eq text s.key.pattern && b) apart ∙ and_none (bytes_eq text s.key.pattern))
    ∙ ap (λ hs. (s.key.pattern, s.serial) ∷ hs) (held_below text n subs below.1)

pub held_again : (text : List ℕ) (n : ℕ) (subs : List Subscription)
    → All (λ other. other.serial < n) subs
    → without_held nat_eq text n (held_of subs ++ (text, n) ∷ []) ≡ held_of subs
held_again text n subs below =
    held_below text n subs (recursion_from_All (λ (other : Subscription). other.serial < n) subs below)

pub cost_without : (n : ℕ) (subs : List Subscription) (sub : Subscription)
    → find (has_serial n) subs ≡ Some sub
    → total_cost subs ≡ cost_of sub.key + total_cost (without_serial n subs)
cost_without n [] sub found = cc
cost_without n (s ∷ subs) sub found =
    elim (cases_Bool (has_serial n s)) [
      | inl so ↦
          let is = first_is s sub (sym (cond-true (has_serial n s) (Some s) (find (has_serial n) subs) so) ∙ found) in
          cost_cons s subs
          ∙ ap (λ t. cost_of t.key + total_cost subs) is
          ∙ ap (λ l. cost_of sub.key + total_cost l)
          (sym (cond-true (has_serial n s) subs (s ∷ without_serial n subs) so))
      | inr other ↦
          let rest : find (has_serial n) subs ≡ Some sub =
          sym (cond-false (has_serial n s) (Some s) (find (has_serial n) subs) other) ∙ found in
          cost_cons s subs
          ∙ ap (λ m. cost_of s.key + m) (cost_without n subs sub rest)
          ∙ swapped (cost_of s.key) (cost_of sub.key) (total_cost (without_serial n subs))
          ∙ ap (λ m. cost_of sub.key + m)
          (sym (cost_cons s (without_serial n subs))
          ∙ ap total_cost (sym (cond-false (has_serial n s) subs (s ∷ without_serial n subs) other)))
    ]
  where
    swapped : (a b c : ℕ) → a + (b + c) ≡ b + (a + c)
    swapped a b c = omega arith

above_filter : (n : ℕ) (p : Subscription → Bool) (subs : List Subscription)
    → all_above n subs ≡ true
    → all_above n (filter p subs) ≡ true
above_filter n p [] all = refl
above_filter n p (s ∷ subs) all =
    let first = (and_parts (nat_lt n s.serial) (all_above n subs) all).0 in
    let rest = above_filter n p subs ((and_parts (nat_lt n s.serial) (all_above n subs) all).1) in
    elim (p s) as (λ b. all_above n (cond b (s ∷ filter p subs) (filter p subs)) ≡ true) [
      | true ↦ and_from (nat_lt n s.serial) (all_above n (filter p subs)) first rest
      | false ↦ rest
    ]

pub rising_filter : (p : Subscription → Bool) (subs : List Subscription)
    → is_rising subs ≡ true
    → is_rising (filter p subs) ≡ true
rising_filter p [] rising = refl
rising_filter p (s ∷ subs) rising =
    let rest = rising_filter p subs ((and_parts (all_above s.serial subs) (is_rising subs) rising).1) in
    elim (p s) as (λ b. is_rising (cond b (s ∷ filter p subs) (filter p subs)) ≡ true) [
      | true ↦
          and_from (all_above s.serial (filter p subs)) (is_rising (filter p subs))
          (above_filter s.serial p subs ((and_parts (all_above s.serial subs) (is_rising subs) rising).0)) rest
      | false ↦ rest
    ]
