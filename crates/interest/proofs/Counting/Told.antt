-- The counts after some deltas are those of the open.
use Rattle.std.proofs.Common.{◌≡◌, ℕ, zero, suc, ◌+◌, ◌≤◌, Bool, true, false, not, ◌&&◌, cond, List, [], ◌∷◌, Option, Some, None, refl, ap, sym, ◌∙◌, arith, zero-add}
use Rattle.std.specs.Prelude.{nat_eq, unwrap_or, count_by}
use Rattle.std.specs.Cmp.{IsTotalOrder, alike_right, eq_by_cmp_equiv}
use Rattle.std.specs.declared.cmp.Ordering.{Ordering}
use Rattle.std.specs.declared.cmp.Ordering.TheVariants.{Less, Equal, Greater}
use Rattle.std.specs.Ordering.{is_eq, match_ordering, eq_by_cmp}
use Rattle.std.specs.List.Sorted.{IsStrictlySortedBy}
use Rattle.std.specs.Map.{keys_of, lookup, remove_entry}
use Rattle.std.specs.BTreeMap.{is_at, insert_entry}
use Rattle.std.proofs.lemmas.Bool.Decides.{nat_tests}
use Rattle.std.proofs.lemmas.List.Sums.{sum_by-cons}
use Rattle.std.proofs.lemmas.Map.{lookup-remove_entry}
use Rattle.std.proofs.lemmas.Map.Keys.{IsDistinct-from_sorted}
use Rattle.subj.specs.declared.keys.Key.{Key}
use Rattle.interest.specs.declared.faults.InterestFault.TheVariants.{UnknownKey}
use Rattle.subj.specs.declared.keys.Delta.{Delta}
use Rattle.subj.specs.Keys.{key_cmp}
use Rattle.interest.specs.Counts.{Counts, count_of, count_after, with_count, counts_after, delta_fault, too_many_if, is_too_much}
use Rattle.interest.specs.Told.{is_opening, is_closing, counts_told, AreTaken, CountsOpen}
use Rattle.interest.specs.KeyOrder.{key_order_total}
use Rattle.interest.proofs.Counting.Places.{sorted_inserted, sorted_removed}

pub is_equal : (r : Ordering) → is_eq r ≡ true → r ≡ Equal
is_equal Less is = cc
is_equal Equal is = refl
is_equal Greater is = cc

module _ {K X : Type 0} {R : K → K → Ordering} (o : IsTotalOrder R) where
  same_tests : (t u : K → Bool) → ((x : K) → t x ≡ u x) → (es : List (K × X)) → lookup t es ≡ lookup u es
  same_tests t u same [] = refl
  same_tests t u same (e ∷ es) =
      ap (λ b. cond b (Some e.1) (lookup t es)) (same e.0) ∙ ap (cond (u e.0) (Some e.1)) (same_tests t u same es)

  -- ties are looked up alike
  pub lookup_tied : (q k : K) (es : List (K × X)) → R q k ≡ Equal → lookup (is_at (R q)) es ≡ lookup (is_at (R k)) es
  lookup_tied q k es same = same_tests (is_at (R q)) (is_at (R k)) (λ x. ap is_eq (o.congr q k x same)) es

  twice : (b : Bool) (x : Option X) (y z : Option X) → cond b x z ≡ cond b x (cond b y z)
  twice true x y z = refl
  twice false x y z = refl

  apart : (b c : Bool) (x y z : Option X) → (b ≡ true → c ≡ true → ⊥) → cond c y (cond b x z) ≡ cond b x (cond c y z)
  apart true true x y z not_both = absurd (not_both refl refl)
  apart true false x y z not_both = refl
  apart false c x y z not_both = refl

  pub lookup_inserted : (q k : K) (w : X) (es : List (K × X))
      → lookup (is_at (R q)) (insert_entry R es k w) ≡ cond (is_eq (R q k)) (Some w) (lookup (is_at (R q)) es)
  lookup_inserted q k w [] = refl
  lookup_inserted q k w (e ∷ es) =
      elim (R k e.0) as (λ r.
      R k e.0 ≡ r
      → lookup (is_at (R q)) (match_ordering r ((k, w) ∷ e ∷ es) ((e.0, w) ∷ es) (e ∷ insert_entry R es k w))
      ≡ cond (is_eq (R q k)) (Some w) (lookup (is_at (R q)) (e ∷ es))) [
        | Less ↦ λ _. refl
        | Equal ↦ λ same.
            ap (λ r. cond (is_eq r) (Some w) (lookup (is_at (R q)) es)) (sym (alike_right o k e.0 q same))
            ∙ twice (is_eq (R q k)) (Some w) (Some e.1) (lookup (is_at (R q)) es)
            ∙ ap (λ r. cond (is_eq (R q k)) (Some w) (cond (is_eq r) (Some e.1) (lookup (is_at (R q)) es)))
            (alike_right o k e.0 q same)
        | Greater ↦ λ more.
            ap (cond (is_eq (R q e.0)) (Some e.1)) (lookup_inserted q k w es)
            ∙ apart (is_eq (R q k)) (is_eq (R q e.0)) (Some w) (Some e.1) (lookup (is_at (R q)) es) (λ one two.
            let tied : Greater ≡ Equal =
            sym more ∙ sym (o.congr q k e.0 (is_equal (R q k) one)) ∙ is_equal (R q e.0) two in
            cc)
      ] refl

  lookup_removed : (q k : K) (es : List (K × X))
      → IsStrictlySortedBy R (keys_of es)
      → lookup (is_at (R q)) (remove_entry (is_at (R k)) es) ≡ cond (is_eq (R k q)) None (lookup (is_at (R q)) es)
  lookup_removed q k es sorted =
      lookup-remove_entry {eq = eq_by_cmp R} (eq_by_cmp_equiv o) (is_at (R k))
      (λ x y at. ap is_eq (o.congr k x y (is_equal (R k x) at))) q es (IsDistinct-from_sorted R (keys_of es) sorted)

unwrapped : (b : Bool) (o : Option ℕ) (n : ℕ) → unwrap_or (cond b (Some n) o) 0 ≡ cond b n (unwrap_or o 0)
unwrapped true o n = refl
unwrapped false o n = refl

unwrapped_none : (b : Bool) (o : Option ℕ) → unwrap_or (cond b None o) 0 ≡ cond b 0 (unwrap_or o 0)
unwrapped_none true o = refl
unwrapped_none false o = refl

turned : (q k : Key) → is_eq (key_cmp k q) ≡ is_eq (key_cmp q k)
turned q k = (eq_by_cmp_equiv key_order_total).symm k q

is_zero : (n : ℕ) → nat_eq n 0 ≡ true → n ≡ 0
is_zero n is = grind (arith, nat_tests)

pub count_with : (counts : Counts) (q k : Key) (n : ℕ)
    → IsStrictlySortedBy key_cmp (keys_of counts)
    → count_of (with_count counts k n) q ≡ cond (is_eq (key_cmp q k)) n (count_of counts q)
count_with counts q k n sorted =
    elim (nat_eq n 0) as (λ b.
    nat_eq n 0 ≡ b
    → count_of (cond b (remove_entry (is_at (key_cmp k)) counts) (insert_entry key_cmp counts k n)) q
    ≡ cond (is_eq (key_cmp q k)) n (count_of counts q)) [
      | true ↦ λ none.
          ap (λ found. unwrap_or found 0) (lookup_removed key_order_total q k counts sorted)
          ∙ unwrapped_none (is_eq (key_cmp k q)) (lookup (is_at (key_cmp q)) counts)
          ∙ ap (λ b. cond b 0 (count_of counts q)) (turned q k)
          ∙ ap (λ m. cond (is_eq (key_cmp q k)) m (count_of counts q)) (sym (is_zero n none))
      | false ↦ λ some.
          ap (λ found. unwrap_or found 0) (lookup_inserted key_order_total q k n counts)
          ∙ unwrapped (is_eq (key_cmp q k)) (lookup (is_at (key_cmp q)) counts) n
    ] refl

pub sorted_with : (counts : Counts) (k : Key) (n : ℕ)
    → IsStrictlySortedBy key_cmp (keys_of counts)
    → IsStrictlySortedBy key_cmp (keys_of (with_count counts k n))
sorted_with counts k n sorted =
    elim (nat_eq n 0) as (λ b.
    IsStrictlySortedBy key_cmp
    (keys_of (cond b (remove_entry (is_at (key_cmp k)) counts) (insert_entry key_cmp counts k n)))) [
      | true ↦ sorted_removed key_order_total k counts sorted
      | false ↦ sorted_inserted key_order_total k counts n sorted
    ]

pub sorted_after : (counts : Counts) (delta : Delta)
    → IsStrictlySortedBy key_cmp (keys_of counts)
    → IsStrictlySortedBy key_cmp (keys_of (counts_after counts delta))
unfolding counts_after
sorted_after counts delta sorted =
    sorted_with counts delta.key (count_after delta.up (count_of counts delta.key)) sorted

-- a closing that is taken is of a key with an open subscription
some_left : (n : ℕ) → cond (nat_eq n 0) (Some UnknownKey) None ≡ None → 1 ≤ n
some_left zero none = cc
some_left (suc n) none = omega arith

one_more : (up tied : Bool) (mine others : ℕ) → (tied ≡ true → others ≡ mine) → (up ≡ false → 1 ≤ mine)
    → cond tied (count_after up mine) others + cond (not up && tied) 1 0 ≡ others + cond (up && tied) 1 0
one_more true true mine others same some = let is = same refl in omega arith
one_more true false mine others same some = refl
one_more false true mine others same some = let is = same refl in let least = some refl in omega arith
one_more false false mine others same some = refl

pub step : (counts : Counts) (delta : Delta) (key : Key)
    → IsStrictlySortedBy key_cmp (keys_of counts)
    → delta_fault counts delta ≡ None
    → count_of (counts_after counts delta) key + cond (is_closing key delta) 1 0
    ≡ count_of counts key + cond (is_opening key delta) 1 0
unfolding counts_after delta_fault
step counts delta key sorted taken =
    ap (λ n. n + cond (is_closing key delta) 1 0)
    (count_with counts key delta.key (count_after delta.up (count_of counts delta.key)) sorted)
    ∙ one_more delta.up (is_eq (key_cmp key delta.key)) (count_of counts delta.key) (count_of counts key)
    (λ tied.
    ap (λ found. unwrap_or found 0)
    (lookup_tied key_order_total key delta.key counts (is_equal (key_cmp key delta.key) tied)))
    (λ down.
    some_left (count_of counts delta.key)
    (ap (λ up.
    cond up (too_many_if (is_too_much counts delta.key))
    (cond (nat_eq (count_of counts delta.key) 0) (Some UnknownKey) None))
    (sym down) ∙ taken))

run : (deltas : List Delta) (counts : Counts) (key : Key)
    → IsStrictlySortedBy key_cmp (keys_of counts)
    → AreTaken counts deltas
    → count_of (counts_told counts deltas) key + count_by (is_closing key) deltas
    ≡ count_of counts key + count_by (is_opening key) deltas
run [] counts key sorted taken = refl
run (delta ∷ deltas) counts key sorted taken =
    let rest = run deltas (counts_after counts delta) key (sorted_after counts delta sorted) taken.1 in
    let first = step counts delta key sorted taken.0 in
    let closed :
    count_by (is_closing key) (delta ∷ deltas) ≡ cond (is_closing key delta) 1 0 + count_by (is_closing key) deltas =
    sum_by-cons (λ d. cond (is_closing key d) 1 0) delta deltas in
    let opened :
    count_by (is_opening key) (delta ∷ deltas) ≡ cond (is_opening key delta) 1 0 + count_by (is_opening key) deltas =
    sum_by-cons (λ d. cond (is_opening key d) 1 0) delta deltas in
    omega arith

pub counts_open : CountsOpen
unfolding IsStrictlySortedBy
counts_open deltas key taken = run deltas [] key tt taken ∙ zero-add (count_by (is_opening key) deltas)
