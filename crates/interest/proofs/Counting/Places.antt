-- Places in a list of entries whose keys rise.
use Rattle.std.proofs.Common.{◌≡◌, ℕ, zero, suc, ◌<◌, ◌≤◌, true, false, cond, List, [], ◌∷◌, length, get_or, Some, Result, Ok, Err, refl, ap, sym, ◌∙◌, arith, ⊎_elim}
use Rattle.std.specs.Prelude.{MatchResult}
use Rattle.std.specs.Cmp.{IsTotalOrder, alike_right}
use Rattle.std.specs.declared.cmp.Ordering.{Ordering}
use Rattle.std.specs.declared.cmp.Ordering.TheVariants.{Less, Equal, Greater}
use Rattle.std.specs.Ordering.{is_eq, match_ordering, ordering_reverse, ordering_index}
use Rattle.std.specs.List.{AllByRecursion}
use Rattle.std.specs.List.Sorted.{IsStrictlySortedBy, IsBinarySearchResult, IsSearchInRange}
use Rattle.std.specs.Map.{keys_of, lookup, remove_entry}
use Rattle.std.specs.BTreeMap.{is_at, insert_entry}
use Rattle.std.proofs.lemmas.Bool.{cases_lt}
use Rattle.std.proofs.lemmas.Map.{lookup-none}
use Rattle.std.proofs.lemmas.Map.Entries.{none_below_head}
use Rattle.std.proofs.lemmas.Map.Keys.{sorted_head, sorted_tail}
use Rattle.interest.specs.Places.{IsPlaceOf, IsGapFor}

all_mapped : {K : Type 0} {P Q : K → Type 0}
    → ((x : K) → P x → Q x)
    → (ks : List K)
    → AllByRecursion P ks
    → AllByRecursion Q ks
all_mapped f [] all = tt
all_mapped f (x ∷ ks) all = (f x all.0, all_mapped f ks all.1)

most_index : (r : Ordering) → ordering_index r ≤ 2
most_index Less = omega arith
most_index Equal = omega arith
most_index Greater = omega arith

module _ {K : Type 0} {R : K → K → Ordering} (o : IsTotalOrder R) (k : K) where
  -- ---- turned comparisons

  greater : (x : K) → R x k ≡ Less → R k x ≡ Greater
  greater x is = o.antisymm k x ∙ ap ordering_reverse is

  less : (x : K) → R x k ≡ Greater → R k x ≡ Less
  less x is = o.antisymm k x ∙ ap ordering_reverse is

  level : (x : K) → R x k ≡ Equal → R k x ≡ Equal
  level x is = o.antisymm k x ∙ ap ordering_reverse is

  under : (x : K) → R k x ≡ Greater → R x k ≡ Less
  under x is = o.antisymm x k ∙ ap ordering_reverse is

  not_falling : (x y : K) → R x y ≡ Less → ordering_index (R x k) ≤ ordering_index (R y k)
  not_falling x y below =
      elim (R y k) as (λ r. R y k ≡ r → ordering_index (R x k) ≤ ordering_index r) [
        | Less ↦ λ is.
            let lower : ordering_index (R x k) ≡ 0 = ap ordering_index (o.trans x y k below is) in omega arith
        | Equal ↦ λ is.
            let lower : ordering_index (R x k) ≡ 0 = ap ordering_index (sym (alike_right o y k x is) ∙ below) in
            omega arith
        | Greater ↦ λ is. most_index (R x k)
      ] refl

module _ {K X : Type 0} {R : K → K → Ordering} (o : IsTotalOrder R) (k : K) where
  -- ---- what the words compute, by the first key

  lookup_step : (e : K × X) (es : List (K × X)) (r : Ordering)
      → R k e.0 ≡ r
      → lookup (is_at (R k)) (e ∷ es) ≡ cond (is_eq r) (Some e.1) (lookup (is_at (R k)) es)
  lookup_step e es r is = ap (λ r. cond (is_eq r) (Some e.1) (lookup (is_at (R k)) es)) is

  remove_step : (e : K × X) (es : List (K × X)) (r : Ordering)
      → R k e.0 ≡ r
      → remove_entry (is_at (R k)) (e ∷ es) ≡ cond (is_eq r) es (e ∷ remove_entry (is_at (R k)) es)
  remove_step e es r is = ap (λ r. cond (is_eq r) es (e ∷ remove_entry (is_at (R k)) es)) is

  insert_step : (e : K × X) (es : List (K × X)) (w : X) (r : Ordering)
      → R k e.0 ≡ r
      → insert_entry R (e ∷ es) k w ≡ match_ordering r ((k, w) ∷ e ∷ es) ((e.0, w) ∷ es) (e ∷ insert_entry R es k w)
  insert_step e es w r is = ap (λ r. match_ordering r ((k, w) ∷ e ∷ es) ((e.0, w) ∷ es) (e ∷ insert_entry R es k w)) is

  -- ---- the key stands at a place

  pub found_here : (e : K × X) (es : List (K × X)) → R k e.0 ≡ Equal → IsPlaceOf R k (e ∷ es) 0
  found_here e es is = record {
    within = omega arith;
    ties = λ d. is;
    value = λ d. lookup_step e es Equal is;
    removes = sym (remove_step e es Equal is);
    writes = λ d w. sym (insert_step e es w Equal is);
  }

  pub found_behind : (e : K × X) (es : List (K × X)) (i : ℕ)
      → R k e.0 ≡ Greater
      → IsPlaceOf R k es i
      → IsPlaceOf R k (e ∷ es) (suc i)
  found_behind e es i is at = let within = at.within in record {
    within = omega arith;
    ties = at.ties;
    value = λ d. lookup_step e es Greater is ∙ at.value d;
    removes = ap (λ l. e ∷ l) at.removes ∙ sym (remove_step e es Greater is);
    writes = λ d w. ap (λ l. e ∷ l) (at.writes d w) ∙ sym (insert_step e es w Greater is);
  }

  -- ---- the key would stand at a place

  pub gap_here : (e : K × X) (es : List (K × X))
      → IsStrictlySortedBy R (keys_of (e ∷ es))
      → R k e.0 ≡ Less
      → IsGapFor R k (e ∷ es) 0
  gap_here e es sorted is = record {
    within = omega arith;
    none = lookup-none (is_at (R k)) (e ∷ es) (none_below_head o k e es sorted is);
    inserts = λ w. sym (insert_step e es w Less is);
  }

  pub gap_behind : (e : K × X) (es : List (K × X)) (i : ℕ)
      → R k e.0 ≡ Greater
      → IsGapFor R k es i
      → IsGapFor R k (e ∷ es) (suc i)
  gap_behind e es i is at = let within = at.within in record {
    within = omega arith;
    none = lookup_step e es Greater is ∙ at.none;
    inserts = λ w. ap (λ l. e ∷ l) (at.inserts w) ∙ sym (insert_step e es w Greater is);
  }

  -- ---- keys keep their order

  all_inserted : (P : K → Type 0) (es : List (K × X)) (w : X)
      → P k
      → AllByRecursion P (keys_of es)
      → AllByRecursion P (keys_of (insert_entry R es k w))
  all_inserted P [] w mine all = (mine, tt)
  all_inserted P (e ∷ es) w mine all =
      elim (R k e.0) as (λ r.
      AllByRecursion P (keys_of (match_ordering r ((k, w) ∷ e ∷ es) ((e.0, w) ∷ es) (e ∷ insert_entry R es k w)))) [
        | Less ↦ (mine, all)
        | Equal ↦ all
        | Greater ↦ (all.0, all_inserted P es w mine all.1)
      ]

  pub sorted_inserted : (es : List (K × X)) (w : X)
      → IsStrictlySortedBy R (keys_of es)
      → IsStrictlySortedBy R (keys_of (insert_entry R es k w))
  unfolding IsStrictlySortedBy
  sorted_inserted [] w sorted = (tt, tt)
  sorted_inserted (e ∷ es) w sorted =
      elim (R k e.0) as (λ r.
      R k e.0 ≡ r
      → IsStrictlySortedBy R
      (keys_of (match_ordering r ((k, w) ∷ e ∷ es) ((e.0, w) ∷ es) (e ∷ insert_entry R es k w)))) [
        | Less ↦ λ lower. ((lower, all_mapped (λ y below. o.trans k e.0 y lower below) (keys_of es) sorted.0), sorted)
        | Equal ↦ λ same. sorted
        | Greater ↦ λ more. (
          all_inserted (λ y. R e.0 y ≡ Less) es w (under o k e.0 more) sorted.0,
          sorted_inserted es w sorted.1,
        )
      ] refl

  all_removed : (P : K → Type 0) (es : List (K × X))
      → AllByRecursion P (keys_of es)
      → AllByRecursion P (keys_of (remove_entry (is_at (R k)) es))
  all_removed P [] all = all
  all_removed P (e ∷ es) all =
      elim (is_at (R k) e.0) as (λ b. AllByRecursion P (keys_of (cond b es (e ∷ remove_entry (is_at (R k)) es)))) [
        | true ↦ all.1
        | false ↦ (all.0, all_removed P es all.1)
      ]

  pub sorted_removed : (es : List (K × X))
      → IsStrictlySortedBy R (keys_of es)
      → IsStrictlySortedBy R (keys_of (remove_entry (is_at (R k)) es))
  unfolding IsStrictlySortedBy
  sorted_removed [] sorted = sorted
  sorted_removed (e ∷ es) sorted =
      elim (is_at (R k) e.0) as (λ b. IsStrictlySortedBy R (keys_of (cond b es (e ∷ remove_entry (is_at (R k)) es)))) [
        | true ↦ sorted.1
        | false ↦ (all_removed (λ y. R e.0 y ≡ Less) es sorted.0, sorted_removed es sorted.1)
      ]

  -- ---- a binary search finds the place

  all_at : (P : K → Type 0) (es : List (K × X)) (i : ℕ) (d : K × X)
      → i < length es
      → AllByRecursion P (keys_of es)
      → P (get_or es i d).0
  all_at P [] i d below all = absurd (omega arith)
  all_at P (e ∷ es) zero d below all = all.0
  all_at P (e ∷ es) (suc i) d below all = all_at P es i d (omega arith) all.1

  rises : (es : List (K × X)) (i j : ℕ) (d : K × X)
      → IsStrictlySortedBy R (keys_of es)
      → i < j
      → j < length es
      → R (get_or es i d).0 (get_or es j d).0 ≡ Less
  rises [] i j d sorted lt below = absurd (omega arith)
  rises (e ∷ es) i zero d sorted lt below = absurd (omega arith)
  rises (e ∷ es) zero (suc j) d sorted lt below =
      all_at (λ y. R e.0 y ≡ Less) es j d (omega arith) (sorted_head R e.0 (keys_of es) sorted)
  rises (e ∷ es) (suc i) (suc j) d sorted lt below =
      rises es i j d (sorted_tail R e.0 (keys_of es) sorted) (omega arith) (omega arith)

  found : (es : List (K × X)) (i : ℕ) (d : K × X)
      → IsStrictlySortedBy R (keys_of es)
      → i < length es
      → R (get_or es i d).0 k ≡ Equal
      → IsPlaceOf R k es i
  found [] i d sorted below is = absurd (omega arith)
  found (e ∷ es) zero d sorted below is = found_here e es (level o k e.0 is)
  found (e ∷ es) (suc i) d sorted below is =
      let first : R e.0 k ≡ Less = sym (alike_right o (get_or es i d).0 k e.0 is)
      ∙ all_at (λ y. R e.0 y ≡ Less) es i d (omega arith) (sorted_head R e.0 (keys_of es) sorted) in
      found_behind e es i (greater o k e.0 first)
      (found es i d (sorted_tail R e.0 (keys_of es) sorted) (omega arith) is)

  gap : (es : List (K × X)) (i : ℕ)
      → IsStrictlySortedBy R (keys_of es)
      → i ≤ length es
      → ((j : ℕ) (d : K × X) → j < i → R (get_or es j d).0 k ≡ Less)
      → ((j : ℕ) (d : K × X) → i ≤ j → j < length es → R (get_or es j d).0 k ≡ Greater)
      → IsGapFor R k es i
  gap [] zero sorted within low high = record { within = omega arith; none = refl; inserts = λ w. refl }
  gap [] (suc i) sorted within low high = absurd (omega arith)
  gap (e ∷ es) zero sorted within low high = gap_here e es sorted (less o k e.0 (high 0 e (omega arith) (omega arith)))
  gap (e ∷ es) (suc i) sorted within low high =
      gap_behind e es i (greater o k e.0 (low 0 e (omega arith)))
      (gap es i (sorted_tail R e.0 (keys_of es) sorted) (omega arith) (λ j d lt. low (suc j) d (omega arith))
      (λ j d le lt. high (suc j) d (omega arith) (omega arith)))

  pub searched : (es : List (K × X)) (r : Result ℕ ℕ)
      → IsStrictlySortedBy R (keys_of es)
      → IsSearchInRange r (length es)
      → IsBinarySearchResult (λ (e : K × X). R e.0 k) es r
      → MatchResult r (IsPlaceOf R k es) (IsGapFor R k es)
  searched [] (Ok i) sorted below is = absurd (omega arith)
  searched (e ∷ es) (Ok i) sorted below is = found (e ∷ es) i e sorted below (is e)
  searched es (Err i) sorted within is =
      let parts = is (λ a b d le lt.
      ⊎_elim (λ (under : a < b). not_falling o k (get_or es a d).0 (get_or es b d).0 (rises es a b d sorted under lt))
      (λ (above : b ≤ a).
      let same : a ≡ b = omega arith in
      let index_same = ap (λ n. ordering_index (R (get_or es n d).0 k)) same in
      omega arith)
      (cases_lt a b)) in
      gap es i sorted within (λ j d lt. parts.0 j d (omega arith) lt) (λ j d le lt. parts.1 j d le lt)
