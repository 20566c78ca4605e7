-- Entries in order of their serials, and what changes to a map change of that order.
use Rattle.std.proofs.Common.{◌≡◌, ℕ, suc, ◌<◌, Bool, true, false, cond, ◌&&◌, List, [], ◌∷◌, ◌++◌, length, Some, None, refl, ap, sym, ◌∙◌, arith, inl, inr}
use Rattle.std.specs.Prelude.{nat_eq, nat_lt, Option, unwrap_or}
use Rattle.std.specs.Map.{lookup, remove_entry, set_value, values_of, keys_of}
use Rattle.std.specs.HashMap.{get, IsUnique}
use Rattle.std.specs.List.{AllByRecursion, IsDistinct}
use Rattle.std.proofs.lemmas.Bool.{cases_Bool, cond-true, cond-false, and_parts, and_from}
use Rattle.std.proofs.lemmas.Bool.Decides.{nat_tests}
use Rattle.std.proofs.lemmas.Map.Keys.{IsDistinct-head, IsDistinct-tail}
use Rattle.sub_table.specs.declared.Subscription.{Subscription}
use Rattle.sub_trie.specs.Rising.{BySerial, rows_with, in_order, rows, is_keyed}

abbrev Entry : Type 0
Entry = ℕ × Subscription

pub flipped : (a b : ℕ) → nat_eq a b ≡ nat_eq b a
flipped a b =
    elim (cases_Bool (nat_eq b a)) [
      | inl y ↦ turned a b true y ∙ sym y
      | inr n ↦ turned a b false n ∙ sym n
    ]
  where
    turned : (a b : ℕ) (r : Bool) → nat_eq b a ≡ r → nat_eq a b ≡ r
    turned a b true so = grind (arith, nat_tests)
    turned a b false so = grind (arith, nat_tests)

same : (a b : ℕ) → nat_eq a b ≡ true → a ≡ b
same a b so = grind (arith, nat_tests)

itself : (n : ℕ) → nat_eq n n ≡ true
itself n = grind (arith, nat_tests)

not_both : (n a b : ℕ) → nat_eq a b ≡ false → (nat_eq n a && nat_eq n b) ≡ false
not_both n a b other =
    elim (cases_Bool (nat_eq n a)) [
      | inl y ↦ ap (λ c. c && nat_eq n b) y ∙ ap (λ m. nat_eq m b) (same n a y) ∙ other
      | inr far ↦ ap (λ c. c && nat_eq n b) far
    ]

swapped : (a b : Bool) (x y z : Option Subscription) → (a && b) ≡ false → cond a x (cond b y z) ≡ cond b y (cond a x z)
swapped true true x y z none = cc
swapped true false x y z none = refl
swapped false true x y z none = refl
swapped false false x y z none = refl

-- ---- order

abbrev keys_above : ℕ → List Entry → Bool
keys_above n [] = true
keys_above n (e ∷ es) = nat_lt n e.0 && keys_above n es

abbrev is_sorted : List Entry → Bool
is_sorted [] = true
is_sorted (e ∷ es) = keys_above e.0 es && is_sorted es

above_less : (a b : ℕ) (es : List Entry) → nat_lt a b ≡ true → keys_above b es ≡ true → keys_above a es ≡ true
above_less a b [] lt all = refl
above_less a b (e ∷ es) lt all =
    and_from (nat_lt a e.0) (keys_above a es) (further a b e.0 lt ((and_parts (nat_lt b e.0) (keys_above b es) all).0))
    (above_less a b es lt ((and_parts (nat_lt b e.0) (keys_above b es) all).1))
  where
    further : (a b d : ℕ) → nat_lt a b ≡ true → nat_lt b d ≡ true → nat_lt a d ≡ true
    further a b d x y = grind (arith, nat_tests)

none_above : (n : ℕ) (es : List Entry) → keys_above n es ≡ true → lookup (nat_eq n) es ≡ None
none_above n [] all = refl
none_above n (e ∷ es) all =
    cond-false (nat_eq n e.0) (Some e.1) (lookup (nat_eq n) es)
    (apart n e.0 ((and_parts (nat_lt n e.0) (keys_above n es) all).0))
    ∙ none_above n es ((and_parts (nat_lt n e.0) (keys_above n es) all).1)
  where
    apart : (a b : ℕ) → nat_lt a b ≡ true → nat_eq a b ≡ false
    apart a b lt = grind (arith, nat_tests)

-- ---- an entry put where it belongs

module _ (e f : Entry) (es : List Entry) where
  goes_before : nat_lt e.0 f.0 ≡ true → rows_with e (f ∷ es) ≡ e ∷ f ∷ es
  goes_before lt = cond-true (nat_lt e.0 f.0) (e ∷ f ∷ es) (cond (nat_eq e.0 f.0) (e ∷ es) (f ∷ rows_with e es)) lt

  goes_here : nat_lt e.0 f.0 ≡ false → nat_eq e.0 f.0 ≡ true → rows_with e (f ∷ es) ≡ e ∷ es
  goes_here ge so =
      cond-false (nat_lt e.0 f.0) (e ∷ f ∷ es) (cond (nat_eq e.0 f.0) (e ∷ es) (f ∷ rows_with e es)) ge
      ∙ cond-true (nat_eq e.0 f.0) (e ∷ es) (f ∷ rows_with e es) so

  goes_behind : nat_lt e.0 f.0 ≡ false → nat_eq e.0 f.0 ≡ false → rows_with e (f ∷ es) ≡ f ∷ rows_with e es
  goes_behind ge other =
      cond-false (nat_lt e.0 f.0) (e ∷ f ∷ es) (cond (nat_eq e.0 f.0) (e ∷ es) (f ∷ rows_with e es)) ge
      ∙ cond-false (nat_eq e.0 f.0) (e ∷ es) (f ∷ rows_with e es) other

lookup_placed : (n : ℕ) (e : Entry) (es : List Entry)
    → lookup (nat_eq n) (rows_with e es) ≡ cond (nat_eq n e.0) (Some e.1) (lookup (nat_eq n) es)
lookup_placed n e [] = refl
lookup_placed n e (f ∷ es) =
    elim (cases_Bool (nat_lt e.0 f.0)) [
      | inl lt ↦ ap (lookup (nat_eq n)) (goes_before e f es lt)
      | inr ge ↦
          elim (cases_Bool (nat_eq e.0 f.0)) [
            | inl so ↦
                ap (lookup (nat_eq n)) (goes_here e f es ge so)
                ∙ hidden (nat_eq n e.0) (nat_eq n f.0) (Some e.1) (Some f.1) (lookup (nat_eq n) es)
                (ap (nat_eq n) (same e.0 f.0 so))
            | inr other ↦
                ap (lookup (nat_eq n)) (goes_behind e f es ge other)
                ∙ ap (λ o. cond (nat_eq n f.0) (Some f.1) o) (lookup_placed n e es)
                ∙ swapped (nat_eq n f.0) (nat_eq n e.0) (Some f.1) (Some e.1) (lookup (nat_eq n) es)
                (not_both n f.0 e.0 (flipped f.0 e.0 ∙ other))
          ]
    ]
  where
    hidden : (a b : Bool) (x y z : Option Subscription) → a ≡ b → cond a x z ≡ cond a x (cond b y z)
    hidden true b x y z is = refl
    hidden false true x y z is = cc
    hidden false false x y z is = refl

lookup_order : (n : ℕ) (es : List Entry) → lookup (nat_eq n) (in_order es) ≡ lookup (nat_eq n) es
lookup_order n [] = refl
lookup_order n (e ∷ es) =
    lookup_placed n e (in_order es) ∙ ap (λ o. cond (nat_eq n e.0) (Some e.1) o) (lookup_order n es)

above_placed : (n : ℕ) (e : Entry) (es : List Entry)
    → nat_lt n e.0 ≡ true
    → keys_above n es ≡ true
    → keys_above n (rows_with e es) ≡ true
above_placed n e [] lt all = and_from (nat_lt n e.0) true lt refl
above_placed n e (f ∷ es) lt all =
    let first = (and_parts (nat_lt n f.0) (keys_above n es) all).0 in
    let rest = (and_parts (nat_lt n f.0) (keys_above n es) all).1 in
    elim (cases_Bool (nat_lt e.0 f.0)) [
      | inl before ↦
          ap (keys_above n) (goes_before e f es before) ∙ and_from (nat_lt n e.0) (keys_above n (f ∷ es)) lt all
      | inr ge ↦
          elim (cases_Bool (nat_eq e.0 f.0)) [
            | inl so ↦ ap (keys_above n) (goes_here e f es ge so) ∙ and_from (nat_lt n e.0) (keys_above n es) lt rest
            | inr other ↦
                ap (keys_above n) (goes_behind e f es ge other)
                ∙ and_from (nat_lt n f.0) (keys_above n (rows_with e es)) first (above_placed n e es lt rest)
          ]
    ]

sorted_placed : (e : Entry) (es : List Entry) → is_sorted es ≡ true → is_sorted (rows_with e es) ≡ true
sorted_placed e [] sorted = refl
sorted_placed e (f ∷ es) sorted =
    let above = (and_parts (keys_above f.0 es) (is_sorted es) sorted).0 in
    let rest = (and_parts (keys_above f.0 es) (is_sorted es) sorted).1 in
    elim (cases_Bool (nat_lt e.0 f.0)) [
      | inl lt ↦
          ap is_sorted (goes_before e f es lt)
          ∙ and_from (keys_above e.0 (f ∷ es)) (is_sorted (f ∷ es))
          (and_from (nat_lt e.0 f.0) (keys_above e.0 es) lt (above_less e.0 f.0 es lt above)) sorted
      | inr ge ↦
          elim (cases_Bool (nat_eq e.0 f.0)) [
            | inl so ↦
                ap is_sorted (goes_here e f es ge so)
                ∙ and_from (keys_above e.0 es) (is_sorted es) (ap (λ k. keys_above k es) (same e.0 f.0 so) ∙ above) rest
            | inr other ↦
                ap is_sorted (goes_behind e f es ge other)
                ∙ and_from (keys_above f.0 (rows_with e es)) (is_sorted (rows_with e es))
                (above_placed f.0 e es (behind e.0 f.0 ge other) above) (sorted_placed e es rest)
          ]
    ]
  where
    behind : (a b : ℕ) → nat_lt a b ≡ false → nat_eq a b ≡ false → nat_lt b a ≡ true
    behind a b ge other = grind (arith, nat_tests)

sorted_order : (es : List Entry) → is_sorted (in_order es) ≡ true
sorted_order [] = refl
sorted_order (e ∷ es) = sorted_placed e (in_order es) (sorted_order es)

-- ---- what is in order is told by its look-ups

value_is : (s t : Subscription) → Some s ≡ Some t → s ≡ t
value_is s t e = ap (λ o. unwrap_or o s) e

found_first : (e : Entry) (es : List Entry) → lookup (nat_eq e.0) (e ∷ es) ≡ Some e.1
found_first e es = cond-true (nat_eq e.0 e.0) (Some e.1) (lookup (nat_eq e.0) es) (itself e.0)

same_entries : (es fs : List Entry)
    → is_sorted es ≡ true
    → is_sorted fs ≡ true
    → ((n : ℕ) → lookup (nat_eq n) es ≡ lookup (nat_eq n) fs)
    → es ≡ fs
same_entries [] [] a b alike = refl
same_entries [] (f ∷ fs) a b alike = absurd (no f.1 (alike f.0 ∙ found_first f fs)) where
  no : (s : Subscription) → None ≡ Some s → ⊥
  no s e = cc
same_entries (e ∷ es) [] a b alike = absurd (no e.1 (sym (alike e.0) ∙ found_first e es)) where
  no : (s : Subscription) → None ≡ Some s → ⊥
  no s e = cc
same_entries (e ∷ es) (f ∷ fs) a b alike =
    let e_above = (and_parts (keys_above e.0 es) (is_sorted es) a).0 in
    let f_above = (and_parts (keys_above f.0 fs) (is_sorted fs) b).0 in
    elim (cases_Bool (nat_lt e.0 f.0)) [
      | inl lt ↦
          absurd (no e.1 (sym (none_above e.0 (f ∷ fs)
          (and_from (nat_lt e.0 f.0) (keys_above e.0 fs) lt (above_less e.0 f.0 fs lt f_above))) ∙ sym (alike e.0)
          ∙ found_first e es))
      | inr ge ↦
          elim (cases_Bool (nat_lt f.0 e.0)) [
            | inl lt ↦
                absurd (no f.1 (sym (none_above f.0 (e ∷ es)
                (and_from (nat_lt f.0 e.0) (keys_above f.0 es) lt (above_less f.0 e.0 es lt e_above))) ∙ alike f.0
                ∙ found_first f fs))
            | inr le ↦
                let key : e.0 ≡ f.0 = neither e.0 f.0 ge le in
                let value : e.1 ≡ f.1 = value_is e.1 f.1
                (sym (found_first e es) ∙ alike e.0 ∙ ap (λ k. lookup (nat_eq k) (f ∷ fs)) key ∙ found_first f fs) in
                ap (λ k. (k, e.1) ∷ es) key
                ∙ ap (λ s. (f.0, s) ∷ es) value
                ∙ ap (λ l. f ∷ l)
                (same_entries es fs ((and_parts (keys_above e.0 es) (is_sorted es) a).1)
                ((and_parts (keys_above f.0 fs) (is_sorted fs) b).1) (behind e_above f_above key))
          ]
    ]
  where
    no : (s : Subscription) → None ≡ Some s → ⊥
    no s e = cc

    neither : (a b : ℕ) → nat_lt a b ≡ false → nat_lt b a ≡ false → a ≡ b
    neither a b x y = grind (arith, nat_tests)

    behind : keys_above e.0 es ≡ true
        → keys_above f.0 fs ≡ true
        → e.0 ≡ f.0
        → (n : ℕ)
        → lookup (nat_eq n) es ≡ lookup (nat_eq n) fs
    behind e_above f_above key n =
        elim (cases_Bool (nat_eq n e.0)) [
          | inl y ↦
              none_above n es (ap (λ k. keys_above k es) (same n e.0 y) ∙ e_above)
              ∙ sym (none_above n fs (ap (λ k. keys_above k fs) (same n e.0 y ∙ key) ∙ f_above))
          | inr other ↦
              sym (cond-false (nat_eq n e.0) (Some e.1) (lookup (nat_eq n) es) other)
              ∙ alike n
              ∙ cond-false (nat_eq n f.0) (Some f.1) (lookup (nat_eq n) fs) (ap (nat_eq n) (sym key) ∙ other)
        ]

-- ---- changes to a map

pub found_row : (n : ℕ) (m : BySerial) → get nat_eq m n ≡ lookup (nat_eq n) (rows m)
found_row n m = sym (lookup_order n m.entries)

sorted_push : (n : ℕ) (sub : Subscription) (es : List Entry)
    → is_sorted es ≡ true
    → is_keyed es ≡ true
    → AllByRecursion (λ other. other.serial < n) (values_of es)
    → is_sorted (es ++ (n, sub) ∷ []) ≡ true
sorted_push n sub [] sorted keyed below = refl
sorted_push n sub (e ∷ es) sorted keyed below =
    and_from (keys_above e.0 (es ++ (n, sub) ∷ [])) (is_sorted (es ++ (n, sub) ∷ []))
    (above_push e.0 es ((and_parts (keys_above e.0 es) (is_sorted es) sorted).0)
    (under e.0 e.1.serial ((and_parts (nat_eq e.0 e.1.serial) (is_keyed es) keyed).0) below.0))
    (sorted_push n sub es ((and_parts (keys_above e.0 es) (is_sorted es) sorted).1)
    ((and_parts (nat_eq e.0 e.1.serial) (is_keyed es) keyed).1) below.1)
  where
    under : (k s : ℕ) → nat_eq k s ≡ true → s < n → nat_lt k n ≡ true
    under k s so lt = grind (arith, nat_tests)

    above_push : (k : ℕ) (es : List Entry)
        → keys_above k es ≡ true
        → nat_lt k n ≡ true
        → keys_above k (es ++ (n, sub) ∷ []) ≡ true
    above_push k [] all lt = and_from (nat_lt k n) true lt refl
    above_push k (d ∷ es) all lt =
        and_from (nat_lt k d.0) (keys_above k (es ++ (n, sub) ∷ []))
        ((and_parts (nat_lt k d.0) (keys_above k es) all).0)
        (above_push k es ((and_parts (nat_lt k d.0) (keys_above k es) all).1) lt)

lookup_push : (q n : ℕ) (sub : Subscription) (es : List Entry)
    → is_keyed es ≡ true
    → AllByRecursion (λ other. other.serial < n) (values_of es)
    → lookup (nat_eq q) (es ++ (n, sub) ∷ []) ≡ cond (nat_eq n q) (Some sub) (lookup (nat_eq q) es)
lookup_push q n sub [] keyed below = ap (λ b. cond b (Some sub) None) (flipped q n)
lookup_push q n sub (e ∷ es) keyed below =
    ap (λ o. cond (nat_eq q e.0) (Some e.1) o)
    (lookup_push q n sub es ((and_parts (nat_eq e.0 e.1.serial) (is_keyed es) keyed).1) below.1)
    ∙ swapped (nat_eq q e.0) (nat_eq n q) (Some e.1) (Some sub) (lookup (nat_eq q) es)
    (ap (λ b. nat_eq q e.0 && b) (flipped n q)
    ∙ not_both q e.0 n (under e.0 e.1.serial ((and_parts (nat_eq e.0 e.1.serial) (is_keyed es) keyed).0) below.0))
  where
    under : (k s : ℕ) → nat_eq k s ≡ true → s < n → nat_eq k n ≡ false
    under k s so lt = grind (arith, nat_tests)

-- one more behind all others
pub rows_push : (n : ℕ) (sub : Subscription) (m k : BySerial)
    → is_keyed (rows m) ≡ true
    → AllByRecursion (λ other. other.serial < n) (values_of (rows m))
    → ((q : ℕ) → get nat_eq k q ≡ cond (nat_eq n q) (Some sub) (get nat_eq m q))
    → rows k ≡ rows m ++ (n, sub) ∷ []
rows_push n sub m k keyed below put =
    same_entries (rows k) (rows m ++ (n, sub) ∷ []) (sorted_order k.entries)
    (sorted_push n sub (rows m) (sorted_order m.entries) keyed below) (λ q.
    lookup_order q k.entries
    ∙ put q
    ∙ ap (λ o. cond (nat_eq n q) (Some sub) o) (sym (lookup_order q m.entries))
    ∙ sym (lookup_push q n sub (rows m) keyed below))

above_removed : (n : ℕ) (test : ℕ → Bool) (es : List Entry)
    → keys_above n es ≡ true
    → keys_above n (remove_entry test es) ≡ true
above_removed n test [] all = refl
above_removed n test (e ∷ es) all =
    let first = (and_parts (nat_lt n e.0) (keys_above n es) all).0 in
    let rest = (and_parts (nat_lt n e.0) (keys_above n es) all).1 in
    elim (test e.0) as (λ b. keys_above n (cond b es (e ∷ remove_entry test es)) ≡ true) [
      | true ↦ rest
      | false ↦ and_from (nat_lt n e.0) (keys_above n (remove_entry test es)) first (above_removed n test es rest)
    ]

sorted_removed : (test : ℕ → Bool) (es : List Entry) → is_sorted es ≡ true → is_sorted (remove_entry test es) ≡ true
sorted_removed test [] sorted = refl
sorted_removed test (e ∷ es) sorted =
    let above = (and_parts (keys_above e.0 es) (is_sorted es) sorted).0 in
    let rest = (and_parts (keys_above e.0 es) (is_sorted es) sorted).1 in
    elim (test e.0) as (λ b. is_sorted (cond b es (e ∷ remove_entry test es)) ≡ true) [
      | true ↦ rest
      | false ↦
          and_from (keys_above e.0 (remove_entry test es)) (is_sorted (remove_entry test es))
          (above_removed e.0 test es above) (sorted_removed test es rest)
    ]

lookup_removed : (q n : ℕ) (es : List Entry)
    → is_sorted es ≡ true
    → lookup (nat_eq q) (remove_entry (nat_eq n) es) ≡ cond (nat_eq n q) None (lookup (nat_eq q) es)
lookup_removed q n [] sorted =
    elim (nat_eq n q) as (λ b. ◌≡◌ {A = Option Subscription} None (cond b None None)) [ true ↦ refl | false ↦ refl ]
lookup_removed q n (e ∷ es) sorted =
    let above = (and_parts (keys_above e.0 es) (is_sorted es) sorted).0 in
    let rest = (and_parts (keys_above e.0 es) (is_sorted es) sorted).1 in
    elim (cases_Bool (nat_eq n e.0)) [
      | inl here ↦
          ap (lookup (nat_eq q)) (cond-true (nat_eq n e.0) es (e ∷ remove_entry (nat_eq n) es) here)
          ∙ elim (cases_Bool (nat_eq n q)) [
            | inl this ↦
                none_above q es (ap (λ k. keys_above k es) (sym (same n q this) ∙ same n e.0 here) ∙ above)
                ∙ sym (cond-true (nat_eq n q) None (lookup (nat_eq q) (e ∷ es)) this)
            | inr other ↦
                sym (cond-false (nat_eq n q) None (lookup (nat_eq q) (e ∷ es)) other
                ∙ cond-false (nat_eq q e.0) (Some e.1) (lookup (nat_eq q) es)
                (ap (nat_eq q) (sym (same n e.0 here)) ∙ flipped q n ∙ other))
          ]
      | inr there ↦
          ap (lookup (nat_eq q)) (cond-false (nat_eq n e.0) es (e ∷ remove_entry (nat_eq n) es) there)
          ∙ ap (λ o. cond (nat_eq q e.0) (Some e.1) o) (lookup_removed q n es rest)
          ∙ swapped (nat_eq q e.0) (nat_eq n q) (Some e.1) None (lookup (nat_eq q) es)
          (ap (λ b. nat_eq q e.0 && b) (flipped n q) ∙ not_both q e.0 n (flipped e.0 n ∙ there))
    ]

-- one less
pub rows_removed : (n : ℕ) (m k : BySerial)
    → ((q : ℕ) → get nat_eq k q ≡ cond (nat_eq n q) None (get nat_eq m q))
    → rows k ≡ remove_entry (nat_eq n) (rows m)
rows_removed n m k taken =
    same_entries (rows k) (remove_entry (nat_eq n) (rows m)) (sorted_order k.entries)
    (sorted_removed (nat_eq n) (rows m) (sorted_order m.entries)) (λ q.
    lookup_order q k.entries
    ∙ taken q
    ∙ ap (λ o. cond (nat_eq n q) None o) (sym (lookup_order q m.entries))
    ∙ sym (lookup_removed q n (rows m) (sorted_order m.entries)))

above_set : (n : ℕ) (test : ℕ → Bool) (w : Subscription) (es : List Entry)
    → keys_above n (set_value test es w) ≡ keys_above n es
above_set n test w [] = refl
above_set n test w (e ∷ es) =
    elim (test e.0) as
    (λ b. keys_above n (cond b ((e.0, w) ∷ es) (e ∷ set_value test es w)) ≡ (nat_lt n e.0 && keys_above n es)) [
      | true ↦ refl
      | false ↦ ap (λ b. nat_lt n e.0 && b) (above_set n test w es)
    ]

sorted_set : (test : ℕ → Bool) (w : Subscription) (es : List Entry) → is_sorted (set_value test es w) ≡ is_sorted es
sorted_set test w [] = refl
sorted_set test w (e ∷ es) =
    elim (test e.0) as
    (λ b. is_sorted (cond b ((e.0, w) ∷ es) (e ∷ set_value test es w)) ≡ (keys_above e.0 es && is_sorted es)) [
      | true ↦ refl
      | false ↦
          ap (λ b. b && is_sorted (set_value test es w)) (above_set e.0 test w es)
          ∙ ap (λ b. keys_above e.0 es && b) (sorted_set test w es)
    ]

lookup_set : (q n : ℕ) (w s : Subscription) (es : List Entry)
    → lookup (nat_eq n) es ≡ Some s
    → lookup (nat_eq q) (set_value (nat_eq n) es w) ≡ cond (nat_eq n q) (Some w) (lookup (nat_eq q) es)
lookup_set q n w s [] found = cc
lookup_set q n w s (e ∷ es) found =
    elim (cases_Bool (nat_eq n e.0)) [
      | inl here ↦
          ap (lookup (nat_eq q)) (cond-true (nat_eq n e.0) ((e.0, w) ∷ es) (e ∷ set_value (nat_eq n) es w) here)
          ∙ hidden (nat_eq q e.0) (nat_eq n q) (Some w) (Some e.1) (lookup (nat_eq q) es)
          (ap (nat_eq q) (sym (same n e.0 here)) ∙ flipped q n)
      | inr there ↦
          ap (lookup (nat_eq q)) (cond-false (nat_eq n e.0) ((e.0, w) ∷ es) (e ∷ set_value (nat_eq n) es w) there)
          ∙ ap (λ o. cond (nat_eq q e.0) (Some e.1) o)
          (lookup_set q n w s es (sym (cond-false (nat_eq n e.0) (Some e.1) (lookup (nat_eq n) es) there) ∙ found))
          ∙ swapped (nat_eq q e.0) (nat_eq n q) (Some e.1) (Some w) (lookup (nat_eq q) es)
          (ap (λ b. nat_eq q e.0 && b) (flipped n q) ∙ not_both q e.0 n (flipped e.0 n ∙ there))
    ]
  where
    hidden : (a b : Bool) (x y z : Option Subscription) → a ≡ b → cond a x z ≡ cond b x (cond a y z)
    hidden true true x y z is = refl
    hidden true false x y z is = cc
    hidden false true x y z is = cc
    hidden false false x y z is = refl

-- one changed
pub rows_set : (n : ℕ) (w s : Subscription) (m k : BySerial)
    → lookup (nat_eq n) (rows m) ≡ Some s
    → ((q : ℕ) → get nat_eq k q ≡ cond (nat_eq n q) (Some w) (get nat_eq m q))
    → rows k ≡ set_value (nat_eq n) (rows m) w
rows_set n w s m k found written =
    same_entries (rows k) (set_value (nat_eq n) (rows m) w) (sorted_order k.entries)
    (sorted_set (nat_eq n) w (rows m) ∙ sorted_order m.entries) (λ q.
    lookup_order q k.entries
    ∙ written q
    ∙ ap (λ o. cond (nat_eq n q) (Some w) o) (sym (lookup_order q m.entries))
    ∙ sym (lookup_set q n w s (rows m) found))

-- ---- how many there are

length_placed : (e : Entry) (es : List Entry)
    → lookup (nat_eq e.0) es ≡ None
    → length (rows_with e es) ≡ suc (length es)
length_placed e [] none = refl
length_placed e (f ∷ es) none =
    elim (cases_Bool (nat_eq e.0 f.0)) [
      | inl so ↦ absurd (no f.1 (sym (sym (cond-true (nat_eq e.0 f.0) (Some f.1) (lookup (nat_eq e.0) es) so) ∙ none)))
      | inr other ↦
          elim (cases_Bool (nat_lt e.0 f.0)) [
            | inl lt ↦ ap length (goes_before e f es lt)
            | inr ge ↦
                ap length (goes_behind e f es ge other)
                ∙ ap (λ n. suc n)
                (length_placed e es
                (sym (cond-false (nat_eq e.0 f.0) (Some f.1) (lookup (nat_eq e.0) es) other) ∙ none))
          ]
    ]
  where
    no : (s : Subscription) → None ≡ Some s → ⊥
    no s e = cc

none_apart : (n : ℕ) (es : List Entry)
    → AllByRecursion (λ k. nat_eq n k ≡ false) (keys_of es)
    → lookup (nat_eq n) es ≡ None
none_apart n [] all = refl
none_apart n (e ∷ es) all = cond-false (nat_eq n e.0) (Some e.1) (lookup (nat_eq n) es) all.0 ∙ none_apart n es all.1

length_order : (es : List Entry) → IsDistinct nat_eq (keys_of es) → length (in_order es) ≡ length es
length_order [] all = refl
length_order (e ∷ es) all =
    length_placed e (in_order es)
    (lookup_order e.0 es ∙ none_apart e.0 es (IsDistinct-head nat_eq e.0 (keys_of es) all))
    ∙ ap (λ n. suc n) (length_order es (IsDistinct-tail nat_eq e.0 (keys_of es) all))

length_values : (es : List Entry) → length (values_of es) ≡ length es
length_values [] = refl
length_values (e ∷ es) = ap (λ n. suc n) (length_values es)

pub as_many : (m : BySerial) → IsUnique nat_eq m → length (values_of (rows m)) ≡ length m.entries
as_many m unique = length_values (rows m) ∙ length_order m.entries unique
