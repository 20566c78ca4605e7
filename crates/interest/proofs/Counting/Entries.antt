-- What a change of one key leaves of the counts.
use Rattle.std.proofs.Common.{◌≡◌, ℕ, ◌+◌, ◌<◌, ◌≤◌, false, ◌||◌, [], length, get_or, set, ap, sym, ◌∙◌, subst, arith, length-set, lit≤}
use Rattle.std.specs.Prelude.{insert, remove, unwrap_or, nat_lt, nat_le, All}
use Rattle.std.specs.List.Sorted.{IsStrictlySortedBy}
use Rattle.std.specs.Map.{keys_of, values_of}
use Rattle.std.specs.BTreeMap.{is_at}
use Rattle.std.proofs.lemmas.Bool.Decides.{nat_tests}
use Rattle.std.proofs.lemmas.List.{get_or-map}
use Rattle.std.proofs.lemmas.List.Edits.{length-insert, length-remove}
use Rattle.std.proofs.lemmas.List.Elements.{All-get_or}
use Rattle.std.proofs.lemmas.List.Sums.{sum_by-insert, sum_by-remove, sum_by-set}
use Rattle.std.proofs.lemmas.Map.Entries.{length-values_of}
use Rattle.std.proofs.lemmas.Map.Views.{All-values-insert_entry, All-map-remove_entry}
use Rattle.subj.specs.declared.limits.TheConstants.{MAX_KEYS, MAX_WEIGHT, SUBSCRIPTION_BYTES}
use Rattle.subj.specs.declared.keys.Key.{Key}
use Rattle.subj.specs.Keys.{key_cmp, cost_of}
use Rattle.interest.specs.Places.{IsPlaceOf, IsGapFor}
use Rattle.interest.specs.Counts.{Counts, count_of, total_cost, is_full, IsInterest}
use Rattle.interest.specs.KeyOrder.{key_order_total}
use Rattle.interest.proofs.Counting.Places.{sorted_inserted, sorted_removed}

abbrev entry_cost : Key × ℕ → ℕ
entry_cost entry = cost_of entry.0

pub nothing : IsInterest []
unfolding IsStrictlySortedBy
nothing = record { rising = tt; counted = λ k d below. absurd (omega arith); few = lit≤ tt; small = lit≤ tt }

-- the numbers of the keys
pub counted_at : (counts : Counts) (place : ℕ) (d : Key × ℕ)
    → IsInterest counts
    → place < length counts
    → (1 ≤ (get_or counts place d).1) × ((get_or counts place d).1 ≤ MAX_WEIGHT)
counted_at counts place d is below =
    let at = All-get_or (λ count. (1 ≤ count) × (count ≤ MAX_WEIGHT)) (values_of counts) place 0
    (omega (arith, length-values_of counts)) is.counted in
    subst (λ count. (1 ≤ count) × (count ≤ MAX_WEIGHT))
    (get_or-map (λ (entry : Key × ℕ). entry.1) counts place d 0 below) at

pub count_at : (counts : Counts) (key : Key) (place : ℕ) (d : Key × ℕ)
    → IsPlaceOf key_cmp key counts place
    → count_of counts key ≡ (get_or counts place d).1
count_at counts key place d at = ap (λ found. unwrap_or found 0) (at.value d)

pub no_count : (counts : Counts) (key : Key) (place : ℕ) → IsGapFor key_cmp key counts place → count_of counts key ≡ 0
no_count counts key place at = ap (λ found. unwrap_or found 0) at.none

-- the same of an entry that was read
pub number_is : (items counts : Counts) (key : Key) (place : ℕ) (entry : Key × ℕ)
    → items ≡ counts
    → IsPlaceOf key_cmp key counts place
    → entry ≡ get_or items place entry
    → count_of counts key ≡ entry.1
number_is items counts key place entry same at read =
    count_at counts key place entry at
    ∙ ap (λ (cs : Counts). (get_or cs place entry).1) (sym same)
    ∙ ap (λ (e : Key × ℕ). e.1) (sym read)

pub number_fits : (items counts : Counts) (place : ℕ) (entry : Key × ℕ)
    → items ≡ counts
    → IsInterest items
    → place < length counts
    → entry ≡ get_or items place entry
    → (1 ≤ entry.1) × (entry.1 ≤ MAX_WEIGHT)
number_fits items counts place entry same is below read =
    let within : place < length items = subst (λ (cs : Counts). place < length cs) (sym same) below in
    subst (λ (e : Key × ℕ). (1 ≤ e.1) × (e.1 ≤ MAX_WEIGHT)) (sym read) (counted_at items place entry is within)

-- ---- a key more

pub total_added : (counts : Counts) (key : Key) (count place : ℕ)
    → total_cost (insert counts place (key, count)) ≡ total_cost counts + cost_of key
total_added counts key count place = sum_by-insert entry_cost counts place (key, count)

not_full : (counts : Counts) (key : Key)
    → is_full counts key ≡ false
    → (length counts < MAX_KEYS) × (total_cost counts + cost_of key ≤ SUBSCRIPTION_BYTES)
not_full counts key not = both MAX_KEYS (length counts) SUBSCRIPTION_BYTES (total_cost counts + cost_of key) not where
  both : (a b c d : ℕ) → (nat_le a b || nat_lt c d) ≡ false → (b < a) × (d ≤ c)
  both a b c d not = grind (arith, nat_tests)

pub added : (counts : Counts) (key : Key) (place : ℕ)
    → IsInterest counts
    → IsGapFor key_cmp key counts place
    → is_full counts key ≡ false
    → IsInterest (insert counts place (key, 1))
added counts key place is at not =
    let room = not_full counts key not in
    let within = at.within in
    record {
      rising =
          subst (λ entries. IsStrictlySortedBy key_cmp (keys_of entries)) (sym (at.inserts 1))
          (sorted_inserted key_order_total key counts 1 is.rising);
      counted =
          subst (λ entries. All (λ count. (1 ≤ count) × (count ≤ MAX_WEIGHT)) (values_of entries)) (sym (at.inserts 1))
          (All-values-insert_entry key_cmp key 1 (λ count. (1 ≤ count) × (count ≤ MAX_WEIGHT)) counts is.counted
          (omega arith, lit≤ tt));
      few = let longer = length-insert counts place (key, 1) within in omega arith;
      small = let more = total_added counts key 1 place in omega arith;
    }

-- ---- another number

pub total_set : (counts : Counts) (place count : ℕ) (d : Key × ℕ)
    → place < length counts
    → total_cost (set counts place ((get_or counts place d).0, count)) ≡ total_cost counts
total_set counts place count d below =
    let same = sum_by-set entry_cost counts place ((get_or counts place d).0, count) d below in omega arith

pub changed : (counts : Counts) (key : Key) (place count : ℕ) (d : Key × ℕ)
    → IsInterest counts
    → IsPlaceOf key_cmp key counts place
    → 1 ≤ count
    → count ≤ MAX_WEIGHT
    → IsInterest (set counts place ((get_or counts place d).0, count))
changed counts key place count d is at least most = record {
  rising =
      subst (λ entries. IsStrictlySortedBy key_cmp (keys_of entries)) (sym (at.writes d count))
      (sorted_inserted key_order_total key counts count is.rising);
  counted =
      subst (λ entries. All (λ count. (1 ≤ count) × (count ≤ MAX_WEIGHT)) (values_of entries)) (sym (at.writes d count))
      (All-values-insert_entry key_cmp key count (λ count. (1 ≤ count) × (count ≤ MAX_WEIGHT)) counts is.counted
      (least, most));
  few = let same = length-set counts place ((get_or counts place d).0, count) in let few = is.few in omega arith;
  small = subst (λ total. total ≤ SUBSCRIPTION_BYTES) (sym (total_set counts place count d at.within)) is.small;
}

-- ---- a key less

pub total_removed : (counts : Counts) (place : ℕ) (d : Key × ℕ)
    → place < length counts
    → total_cost (remove counts place) + cost_of (get_or counts place d).0 ≡ total_cost counts
total_removed counts place d below = sum_by-remove entry_cost counts place d below

pub removed : (counts : Counts) (key : Key) (place : ℕ) (d : Key × ℕ)
    → IsInterest counts
    → IsPlaceOf key_cmp key counts place
    → IsInterest (remove counts place)
removed counts key place d is at =
    let within = at.within in
    record {
      rising =
          subst (λ entries. IsStrictlySortedBy key_cmp (keys_of entries)) (sym at.removes)
          (sorted_removed key_order_total key counts is.rising);
      counted =
          subst (λ entries. All (λ count. (1 ≤ count) × (count ≤ MAX_WEIGHT)) (values_of entries)) (sym at.removes)
          (All-map-remove_entry (is_at (key_cmp key)) (λ (entry : Key × ℕ). entry.1)
          (λ count. (1 ≤ count) × (count ≤ MAX_WEIGHT)) counts is.counted);
      few = let shorter = length-remove counts place within in let few = is.few in omega arith;
      small = let less = total_removed counts place d within in let small = is.small in omega arith;
    }
