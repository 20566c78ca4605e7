-- Counts and the changes told of them agree.
use Rattle.std.proofs.Common.{◌≡◌, ℕ, zero, suc, ◌+◌, ◌-◌, ◌≤◌, Bool, true, false, ◌&&◌, ⊎_elim, cond, List, [], ◌∷◌, ◌++◌, get_or, Option, Some, None, refl, ap, sym, ◌∙◌, subst, arith}
use Rattle.std.specs.Prelude.{nat_eq, nat_lt, nat_le, unwrap_or, option_to_list}
use Rattle.std.specs.declared.cmp.Ordering.TheVariants.{Less, Equal, Greater}
use Rattle.std.specs.Ordering.{is_eq, match_ordering}
use Rattle.std.specs.List.Sorted.{IsStrictlySortedBy}
use Rattle.std.specs.Map.{keys_of, lookup, remove_entry}
use Rattle.std.specs.BTreeMap.{is_at, insert_entry}
use Rattle.std.proofs.lemmas.Bool.Decides.{nat_tests}
use Rattle.std.proofs.lemmas.Map.Keys.{sorted_tail}
use Rattle.std.proofs.lemmas.Option.{none-some}
use Rattle.subj.specs.declared.keys.Key.{Key}
use Rattle.subj.specs.declared.limits.TheConstants.{MAX_WEIGHT}
use Rattle.subj.specs.Keys.{key_cmp}
use Rattle.interest.specs.declared.changes.Change.{Change}
use Rattle.interest.specs.declared.changes.Change.TheVariants.{Up, Gone}
use Rattle.subj.specs.declared.keys.Delta.{Delta}
use Rattle.interest.specs.Counts.{Counts, count_of, count_after, with_count, counts_after, change_between, change_of, delta_fault, is_full, is_plain, too_many_if, told_weight, IsInterest}
use Rattle.interest.specs.Places.{IsPlaceOf, IsGapFor}
use Rattle.interest.specs.Told.{counts_told, changes_told, AreTaken}
use Rattle.interest.specs.Views.{View, told_view, followed_if, view_after}
use Rattle.interest.specs.Laws.{StaysWithin, StepsAgree, RunsAgree}
use Rattle.interest.proofs.Counting.Deltas.{opening_of_known, opening_of_unknown, closing_of_unknown}
use Rattle.interest.proofs.Counting.Entries.{nothing, added, changed, removed, counted_at, count_at, no_count}
use Rattle.interest.specs.KeyOrder.{key_order_total}
use Rattle.interest.proofs.Counting.Ties.{tied_plain, tied_weight, placed, absent_below}

-- ---- what counts are told as, where one key changes

told_removed : (counts : Counts) (key : Key)
    → told_view (remove_entry (is_at (key_cmp key)) counts) ≡ remove_entry (is_at (key_cmp key)) (told_view counts)
told_removed [] key = refl
told_removed (e ∷ es) key =
    elim (is_at (key_cmp key) e.0) as (λ b.
    told_view (cond b es (e ∷ remove_entry (is_at (key_cmp key)) es))
    ≡ cond b (told_view es) ((e.0, told_weight e.0 e.1) ∷ remove_entry (is_at (key_cmp key)) (told_view es))) [
      | true ↦ refl
      | false ↦ ap (λ t. (e.0, told_weight e.0 e.1) ∷ t) (told_removed es key)
    ]

told_inserted : (counts : Counts) (key : Key) (n : ℕ)
    → told_view (insert_entry key_cmp counts key n) ≡ insert_entry key_cmp (told_view counts) key (told_weight key n)
told_inserted [] key n = refl
told_inserted (e ∷ es) key n =
    elim (key_cmp key e.0) as (λ r.
    key_cmp key e.0 ≡ r
    → told_view (match_ordering r ((key, n) ∷ e ∷ es) ((e.0, n) ∷ es) (e ∷ insert_entry key_cmp es key n))
    ≡ match_ordering r ((key, told_weight key n) ∷ (e.0, told_weight e.0 e.1) ∷ told_view es)
    ((e.0, told_weight key n) ∷ told_view es)
    ((e.0, told_weight e.0 e.1) ∷ insert_entry key_cmp (told_view es) key (told_weight key n))) [
      | Less ↦ λ is. refl
      | Equal ↦ λ is. ap (λ w. (e.0, w) ∷ told_view es) (sym (tied_weight key e.0 n is))
      | Greater ↦ λ is. ap (λ t. (e.0, told_weight e.0 e.1) ∷ t) (told_inserted es key n)
    ] refl

-- another number of a plain key that counts isn't seen
plain_alike : (a b : Key) (n m : ℕ) → key_cmp a b ≡ Equal → is_plain a ≡ true → told_weight b n ≡ told_weight b m
plain_alike a b n m tied plain =
    ap (λ p. cond p 1 n) (sym (tied_plain a b tied) ∙ plain) ∙ ap (λ p. cond p 1 m) (sym plain ∙ tied_plain a b tied)

none_counts : (o : Option ℕ) → o ≡ None → 1 ≤ unwrap_or o 0 → ⊥
none_counts None is some = absurd (omega arith)
none_counts (Some n) is some = none-some n (sym is)

told_recounted : (counts : Counts) (key : Key) (n : ℕ)
    → IsStrictlySortedBy key_cmp (keys_of counts)
    → is_plain key ≡ true
    → 1 ≤ count_of counts key
    → told_view (insert_entry key_cmp counts key n) ≡ told_view counts
told_recounted [] key n sorted plain some = absurd (omega arith)
told_recounted (e ∷ es) key n sorted plain some =
    elim (key_cmp key e.0) as (λ r.
    key_cmp key e.0 ≡ r
    → told_view (match_ordering r ((key, n) ∷ e ∷ es) ((e.0, n) ∷ es) (e ∷ insert_entry key_cmp es key n))
    ≡ told_view (e ∷ es)) [
      | Less ↦ λ is.
          absurd
          (none_counts (lookup (is_at (key_cmp key)) (e ∷ es)) (absent_below key_order_total key e es sorted is) some)
      | Equal ↦ λ is. ap (λ w. (e.0, w) ∷ told_view es) (plain_alike key e.0 n e.1 is plain)
      | Greater ↦ λ is.
          ap (λ t. (e.0, told_weight e.0 e.1) ∷ t)
          (told_recounted es key n (sorted_tail key_cmp e.0 (keys_of es) sorted) plain
          (subst (λ r. 1 ≤ unwrap_or (cond (is_eq r) (Some e.1) (lookup (is_at (key_cmp key)) es)) 0) is some))
    ] refl

-- ---- one delta

told_with : (counts : Counts) (key : Key) (n m : ℕ)
    → IsStrictlySortedBy key_cmp (keys_of counts)
    → count_of counts key ≡ n
    → told_view (with_count counts key m) ≡ followed_if (change_between key n m) (told_view counts)
told_with counts key n m sorted is =
    elim (nat_eq m 0) as (λ b.
    told_view (cond b (remove_entry (is_at (key_cmp key)) counts) (insert_entry key_cmp counts key m))
    ≡ followed_if
    (cond b (Some (Gone key)) (cond (is_plain key && nat_lt 0 n) None (Some (Up (key, told_weight key m)))))
    (told_view counts)) [
      | true ↦ told_removed counts key
      | false ↦ kept (is_plain key && nat_lt 0 n) refl
    ]
  where
    both : (a : Bool) (k : ℕ) → (a && nat_lt 0 k) ≡ true → (a ≡ true) × (1 ≤ k)
    both true k h = (refl, grind (arith, nat_tests, h))
    both false k h = cc

    kept : (b : Bool)
        → (is_plain key && nat_lt 0 n) ≡ b
        → told_view (insert_entry key_cmp counts key m)
        ≡ followed_if (cond b None (Some (Up (key, told_weight key m)))) (told_view counts)
    kept true h =
        let p = both (is_plain key) n h in told_recounted counts key m sorted p.0 (subst (λ k. 1 ≤ k) (sym is) p.1)
    kept false h = told_inserted counts key m

pub steps_agree : StepsAgree
unfolding counts_after change_of
steps_agree counts delta is taken =
    told_with counts delta.key (count_of counts delta.key) (count_after delta.up (count_of counts delta.key)) is.rising
    refl

-- ---- counts stay within their limits

below : (n : ℕ) → too_many_if (nat_le MAX_WEIGHT n) ≡ None → suc n ≤ MAX_WEIGHT
below n taken = go (nat_le MAX_WEIGHT n) refl taken
  where
    go : (b : Bool) → nat_le MAX_WEIGHT n ≡ b → too_many_if b ≡ None → suc n ≤ MAX_WEIGHT
    go true is h = absurd (none-some _ (sym h))
    go false is h = grind (arith, nat_tests, is)

room : (b : Bool) → too_many_if b ≡ None → b ≡ false
room true h = absurd (none-some _ (sym h))
room false h = refl

-- the number written for a key
pub written : (counts : Counts) (key : Key) (n : ℕ)
    → 1 ≤ n
    → with_count counts key n ≡ insert_entry key_cmp counts key n
written counts key n some =
    ap (λ b. cond b (remove_entry (is_at (key_cmp key)) counts) (insert_entry key_cmp counts key n)) not_zero
  where
    not_zero : nat_eq n 0 ≡ false
    not_zero = grind (arith, nat_tests)

within : (counts : Counts) (key : Key) (up : Bool)
    → IsInterest counts
    → delta_fault counts (record { key = key; up = up }) ≡ None
    → IsInterest (with_count counts key (count_after up (count_of counts key)))
within counts key up is taken =
    ⊎_elim (λ (at : (i : ℕ) × IsPlaceOf key_cmp key counts i). known at.0 at.1 up taken)
    (λ (at : (i : ℕ) × IsGapFor key_cmp key counts i). new at.0 at.1 up taken)
    (placed key_order_total key counts is.rising)
  where
    new : (i : ℕ)
        → IsGapFor key_cmp key counts i
        → (u : Bool)
        → delta_fault counts (record { key = key; up = u }) ≡ None
        → IsInterest (with_count counts key (count_after u (count_of counts key)))
    new i at true ok =
        let none = no_count counts key i at in
        subst IsInterest
        (at.inserts 1 ∙ sym (written counts key 1 (omega arith)) ∙ ap (λ n. with_count counts key (n + 1)) (sym none))
        (added counts key i is at
        (room (is_full counts key) (sym (opening_of_unknown counts (record { key = key; up = true }) refl none) ∙ ok)))
    new i at false ok =
        absurd (none-some _
        (sym ok ∙ closing_of_unknown counts (record { key = key; up = false }) refl (no_count counts key i at)))

    entry : ℕ → Key × ℕ
    entry i = get_or counts i (key, 0)

    known : (i : ℕ)
        → IsPlaceOf key_cmp key counts i
        → (u : Bool)
        → delta_fault counts (record { key = key; up = u }) ≡ None
        → IsInterest (with_count counts key (count_after u (count_of counts key)))
    known i at true ok =
        let n : ℕ = (get_or counts i (key, 0)).1 in
        let count = count_at counts key i (key, 0) at in
        let fits = counted_at counts i (key, 0) is at.within in
        subst IsInterest
        (at.writes (key, 0) (n + 1) ∙ sym (written counts key (n + 1) (omega arith))
        ∙ ap (λ n. with_count counts key (n + 1)) (sym count))
        (changed counts key i (n + 1) (key, 0) is at (omega arith)
        (let less =
        below n (sym (opening_of_known counts (record { key = key; up = true }) n refl count fits.0) ∙ ok) in
        omega arith))
    known i at false ok =
        let n : ℕ = (get_or counts i (key, 0)).1 in
        let count = count_at counts key i (key, 0) at in
        let fits = counted_at counts i (key, 0) is at.within in
        subst (λ m. IsInterest (with_count counts key (m - 1))) (sym count) (fewer n fits.0 fits.1)
      where
        fewer : (n : ℕ) → 1 ≤ n → n ≤ MAX_WEIGHT → IsInterest (with_count counts key (n - 1))
        fewer zero some most = absurd (omega arith)
        fewer (suc zero) some most = subst IsInterest at.removes (removed counts key i (key, 0) is at)
        fewer (suc (suc m)) some most =
            let less : suc (suc m) - 1 ≡ suc m = omega arith in
            subst (λ k. IsInterest (with_count counts key k)) (sym less)
            (subst IsInterest (at.writes (key, 0) (suc m) ∙ sym (written counts key (suc m) (omega arith)))
            (changed counts key i (suc m) (key, 0) is at (omega arith) (omega arith)))

pub stays_within : StaysWithin
unfolding counts_after
stays_within counts delta is taken = within counts delta.key delta.up is taken

-- ---- all deltas

after_more : (change : Option Change) (changes : List Change) (view : View)
    → view_after (option_to_list change ++ changes) view ≡ view_after changes (followed_if change view)
after_more None changes view = refl
after_more (Some change) changes view = refl

pub run_within : (deltas : List Delta) (counts : Counts)
    → IsInterest counts
    → AreTaken counts deltas
    → IsInterest (counts_told counts deltas)
run_within [] counts is taken = is
run_within (delta ∷ deltas) counts is taken =
    run_within deltas (counts_after counts delta) (stays_within counts delta is taken.0) taken.1

pub run : (deltas : List Delta) (counts : Counts)
    → IsInterest counts
    → AreTaken counts deltas
    → told_view (counts_told counts deltas) ≡ view_after (changes_told counts deltas) (told_view counts)
run [] counts is taken = refl
run (delta ∷ deltas) counts is taken =
    run deltas (counts_after counts delta) (stays_within counts delta is taken.0) taken.1
    ∙ ap (view_after (changes_told (counts_after counts delta) deltas)) (steps_agree counts delta is taken.0)
    ∙ sym (after_more (change_of counts delta) (changes_told (counts_after counts delta) deltas) (told_view counts))

pub runs_agree : RunsAgree
runs_agree deltas taken = run deltas [] nothing taken
