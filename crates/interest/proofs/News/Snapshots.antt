-- Counts within their limits are told as the keys of a snapshot.
use Rattle.std.proofs.Common.{◌≡◌, ℕ, ◌+◌, ◌≤◌, true, ◌&&◌, cond, List, [], ◌∷◌, ◌++◌, length, All, Option, Some, None, refl, ap, arith, length-append}
use Rattle.std.specs.Prelude.{nat_le, nat_eq, is_none, decimal}
use Rattle.std.specs.List.{AllByRecursion}
use Rattle.std.specs.declared.cmp.Ordering.TheVariants.{Less}
use Rattle.std.specs.Ordering.{is_lt}
use Rattle.std.specs.List.Sorted.{IsStrictlySortedBy}
use Rattle.std.specs.Map.{keys_of, values_of}
use Rattle.std.proofs.lemmas.Bool.Decides.{nat_tests}
use Rattle.std.proofs.lemmas.Fmt.{length-decimal-le}
use Rattle.std.proofs.lemmas.List.Elements.{All-head, All-tail}
use Rattle.std.proofs.lemmas.List.Sums.{sum_by-cons}
use Rattle.std.proofs.lemmas.Map.Keys.{sorted_head, sorted_tail}
use Rattle.subj.specs.declared.keys.Key.{Key}
use Rattle.subj.specs.declared.limits.TheConstants.{MAX_WEIGHT, MAX_SNAPSHOT}
use Rattle.subj.specs.Keys.{key_cmp, cost_of, queue_bytes}
use Rattle.route_values.specs.Snapshots.{Weighted, weighted_key, queue_fields, key_line, snapshot_text, is_before_first, are_rising}
use Rattle.interest.specs.Counts.{Counts, told_weight, total_cost, IsInterest}
use Rattle.interest.specs.Views.{told_view}
use Rattle.interest.specs.Laws.{CanBeTold}

abbrev Fits : ℕ → Type 0
Fits count = (1 ≤ count) × (count ≤ MAX_WEIGHT)

-- ---- one key

fields_short : (queue : Option (List ℕ)) (count : ℕ)
    → Fits count
    → length (queue_fields queue (cond (is_none queue) 1 count)) ≤ queue_bytes queue + 7
fields_short None count fits = omega arith
fields_short (Some name) count fits =
    let number =
    length-decimal-le 5 count (omega arith) (let most = fits.1 in omega arith) (let most = fits.1 in omega arith) in
    let whole = length-append name (32 ∷ decimal count) in
    omega arith

line_short : (key : Key) (count : ℕ) → Fits count → length (key_line (key, told_weight key count)) ≤ cost_of key
unfolding key_line
line_short key count fits =
    let fields = fields_short key.queue count fits in
    let whole = length-append key.pattern (queue_fields key.queue (told_weight key count) ++ (13 ∷ 10 ∷ [])) in
    let behind = length-append (queue_fields key.queue (told_weight key count)) (13 ∷ 10 ∷ []) in
    omega arith

weight_is : (queue : Option (List ℕ)) (count : ℕ)
    → Fits count
    → cond (is_none queue) (nat_eq (cond (is_none queue) 1 count) 1)
    (nat_le 1 (cond (is_none queue) 1 count) && nat_le (cond (is_none queue) 1 count) MAX_WEIGHT) ≡ true
weight_is None count fits = refl
weight_is (Some name) count fits = within MAX_WEIGHT fits.0 fits.1
  where
    within : (most : ℕ) → 1 ≤ count → count ≤ most → (nat_le 1 count && nat_le count most) ≡ true
    within most some few = grind (arith, nat_tests)

weighted : (key : Key) (count : ℕ)
    → Fits count
    → weighted_key key (told_weight key count) ≡ Some (key, told_weight key count)
weighted key count fits = ap (λ b. cond b (Some (key, told_weight key count)) None) (weight_is key.queue count fits)

-- ---- all of them

text_short : (counts : Counts)
    → All Fits (values_of counts)
    → length (snapshot_text (told_view counts)) ≤ total_cost counts
text_short [] all = omega arith
text_short (e ∷ es) all =
    let line = line_short e.0 e.1 (All-head Fits e.1 (values_of es) all) in
    let rest = text_short es (All-tail Fits e.1 (values_of es) all) in
    let whole = length-append (key_line (e.0, told_weight e.0 e.1)) (snapshot_text (told_view es)) in
    let cost = sum_by-cons (λ (entry : Key × ℕ). cost_of entry.0) e es in
    omega arith

rise : (counts : Counts) → IsStrictlySortedBy key_cmp (keys_of counts) → are_rising (told_view counts) ≡ true
rise [] sorted = refl
rise (e ∷ es) sorted = (λ i.
    first es (sorted_head key_cmp e.0 (keys_of es) sorted) i && rise es (sorted_tail key_cmp e.0 (keys_of es) sorted) i)
  where
    first : (fs : Counts)
        → AllByRecursion (λ y. key_cmp e.0 y ≡ Less) (keys_of fs)
        → is_before_first (e.0, told_weight e.0 e.1) (told_view fs) ≡ true
    first [] all = refl
    first (f ∷ fs) all = ap is_lt all.0

each_weighted : (counts : Counts)
    → All Fits (values_of counts)
    → AllByRecursion (λ (w : Weighted). weighted_key w.0 w.1 ≡ Some w) (told_view counts)
each_weighted [] all = tt
each_weighted (e ∷ es) all = (
  weighted e.0 e.1 (All-head Fits e.1 (values_of es) all),
  each_weighted es (All-tail Fits e.1 (values_of es) all),
)

short : (counts : Counts) → IsInterest counts → nat_le (length (snapshot_text (told_view counts))) MAX_SNAPSHOT ≡ true
short counts is =
    within (length (snapshot_text (told_view counts))) MAX_SNAPSHOT
    (let text = text_short counts is.counted in let small = is.small in omega arith)
  where
    within : (n m : ℕ) → n ≤ m → nat_le n m ≡ true
    within n m fits = grind (arith, nat_tests)

pub can_be_told : CanBeTold
can_be_told counts is = (
  (λ i. cond (short counts is i && rise counts is.rising i) (Some (told_view counts)) None),
  each_weighted counts is.counted,
)
