-- Deltas counted in order without a table, as the counts would be.
use Rattle.std.proofs.Common.{◌≡◌, ℕ, zero, suc, ◌+◌, ◌-◌, ◌<◌, ◌≤◌, Bool, true, false, not, ◌&&◌, ◌||◌, ⊎_elim, cond, List, [], ◌∷◌, ◌++◌, length, take, drop, get_or, length-set, Option, Some, None, refl, ap, sym, ◌∙◌, subst, arith}
use Rattle.std.specs.Prelude.{nat_eq, nat_lt, is_some, unwrap_or, option_to_list}
use Rattle.std.specs.Ordering.{is_eq}
use Rattle.std.specs.List.Sorted.{IsStrictlySortedBy}
use Rattle.std.specs.Map.{keys_of}
use Rattle.std.proofs.lemmas.Bool.Decides.{nat_tests}
use Rattle.std.proofs.lemmas.List.Edits.{length-insert, length-remove}
use Rattle.std.proofs.lemmas.Option.{none-some}
use Rattle.subj.specs.declared.keys.Key.{Key}
use Rattle.subj.specs.Keys.{key_cmp, cost_of}
use Rattle.interest.specs.declared.faults.InterestFault.{InterestFault}
use Rattle.interest.specs.declared.changes.Change.{Change}
use Rattle.subj.specs.declared.keys.Delta.{Delta}
use Rattle.interest.specs.Counts.{Counts, count_of, count_after, with_count, counts_after, change_of, delta_fault, is_plain, is_too_much, too_many_if, total_cost, told_weight, IsInterest}
use Rattle.interest.specs.Places.{IsPlaceOf, IsGapFor}
use Rattle.interest.specs.Told.{counts_told, changes_told, are_refused}
use Rattle.interest.specs.Tally.{number_behind, is_refused_of, total_after, is_told_of}
use Rattle.interest.proofs.Counting.Agreement.{stays_within, written}
use Rattle.interest.proofs.Counting.Deltas.{closing_of_unknown}
use Rattle.interest.proofs.Counting.Entries.{count_at, no_count, counted_at, total_added, total_set, total_removed}
use Rattle.interest.specs.KeyOrder.{key_order_total}
use Rattle.interest.proofs.Counting.Ties.{placed, tied_cost}
use Rattle.interest.proofs.Counting.Told.{is_equal, lookup_tied, count_with, sorted_after}

-- ---- the deltas before one, and those from it on

pub told_next : (counts : Counts) (deltas : List Delta) (i : ℕ) (delta : Delta)
    → i < length deltas
    → delta ≡ get_or deltas i delta
    → counts_told counts (take (suc i) deltas) ≡ counts_after (counts_told counts (take i deltas)) delta
told_next counts [] i delta lt at = absurd (omega arith)
told_next counts (d ∷ deltas) zero delta lt at = ap (counts_after counts) (sym at)
told_next counts (d ∷ deltas) (suc i) delta lt at = told_next (counts_after counts d) deltas i delta (omega arith) at

pub left_from : (deltas : List Delta) (i : ℕ) (delta : Delta)
    → i < length deltas
    → delta ≡ get_or deltas i delta
    → drop i deltas ≡ delta ∷ drop (suc i) deltas
left_from [] i delta lt at = absurd (omega arith)
left_from (d ∷ deltas) zero delta lt at = ap (λ d. d ∷ deltas) (sym at)
left_from (d ∷ deltas) (suc i) delta lt at = left_from deltas i delta (omega arith) at

-- ---- the number of a key

number_next : (counts : Counts) (delta : Delta) (key : Key)
    → IsStrictlySortedBy key_cmp (keys_of counts)
    → count_of (counts_after counts delta) key
    ≡ cond (is_eq (key_cmp key delta.key)) (count_after delta.up (count_of counts key)) (count_of counts key)
unfolding counts_after
number_next counts delta key sorted =
    count_with counts key delta.key (count_after delta.up (count_of counts delta.key)) sorted
    ∙ go (is_eq (key_cmp key delta.key)) refl
  where
    go : (b : Bool)
        → is_eq (key_cmp key delta.key) ≡ b
        → cond b (count_after delta.up (count_of counts delta.key)) (count_of counts key)
        ≡ cond b (count_after delta.up (count_of counts key)) (count_of counts key)
    go true is =
        ap (λ found. count_after delta.up (unwrap_or found 0))
        (sym (lookup_tied key_order_total key delta.key counts (is_equal (key_cmp key delta.key) is)))
    go false is = refl

pub number_is_behind : (deltas : List Delta) (counts : Counts) (key : Key)
    → IsStrictlySortedBy key_cmp (keys_of counts)
    → count_of (counts_told counts deltas) key ≡ number_behind deltas key (count_of counts key)
number_is_behind [] counts key sorted = refl
number_is_behind (delta ∷ deltas) counts key sorted =
    number_is_behind deltas (counts_after counts delta) key (sorted_after counts delta sorted)
    ∙ ap (number_behind deltas key) (number_next counts delta key sorted)

-- ---- whether a delta is refused

some_if : (b : Bool) → is_some (too_many_if b) ≡ b
some_if true = refl
some_if false = refl

one_if : (b : Bool) (fault : InterestFault) → is_some (cond b (Some fault) None) ≡ b
one_if true fault = refl
one_if false fault = refl

pub refused_is : (counts : Counts) (delta : Delta)
    → is_some (delta_fault counts delta)
    ≡ is_refused_of (length counts) (total_cost counts) delta (count_of counts delta.key)
unfolding delta_fault
refused_is counts delta = go delta.up
  where
    go : (up : Bool)
        → is_some (cond up (too_many_if (is_too_much counts delta.key))
        (cond (nat_eq (count_of counts delta.key) 0) (Some InterestFault.UnknownKey) None))
        ≡ cond up (is_too_much counts delta.key) (nat_eq (count_of counts delta.key) 0)
    go true = some_if (is_too_much counts delta.key)
    go false = one_if (nat_eq (count_of counts delta.key) 0) InterestFault.UnknownKey

pub none_if : (fault : Option InterestFault) → is_some fault ≡ false → fault ≡ None
none_if None is = refl
none_if (Some fault) is = cc

-- ---- how many changes are told

pub told_is : (counts : Counts) (delta : Delta)
    → length (option_to_list (change_of counts delta))
    ≡ cond (is_told_of delta.key (count_of counts delta.key) (count_after delta.up (count_of counts delta.key))) 1 0
unfolding change_of
told_is counts delta =
    go (nat_eq (count_after delta.up (count_of counts delta.key)) 0)
    (is_plain delta.key && nat_lt 0 (count_of counts delta.key))
  where
    go : (gone again : Bool)
        → length (option_to_list (cond gone (Some (Change.Gone delta.key))
        (cond again None
        (Some (Change.Up (delta.key, told_weight delta.key (count_after delta.up (count_of counts delta.key))))))))
        ≡ cond (gone || not again) 1 0
    go true again = refl
    go false true = refl
    go false false = refl

length_joined : {X : Type 0} (xs ys : List X) → length (xs ++ ys) ≡ length xs + length ys
length_joined [] ys = omega arith
length_joined (x ∷ xs) ys = let rest = length_joined xs ys in omega arith

-- ---- the totals

one_less : (n : ℕ) → suc (suc n) - 1 ≡ suc n
one_less n = omega arith

not_none : (n : ℕ) → nat_eq (suc n) 0 ≡ false
not_none n = grind (arith, nat_tests)

not_one : (n : ℕ) → nat_eq (suc (suc n)) 1 ≡ false
not_one n = grind (arith, nat_tests)

-- where the key was there
known_keys : (counts : Counts) (i n : ℕ) (key : Key) (up : Bool)
    → 1 ≤ n
    → IsPlaceOf key_cmp key counts i
    → length (with_count counts key (count_after up n)) ≡ total_after up n (length counts) 1
known_keys counts i zero key up some at = absurd (omega arith)
known_keys counts i (suc n) key true some at =
    ap length (written counts key (suc n + 1) (omega arith) ∙ sym (at.writes (key, 0) (suc n + 1)))
    ∙ length-set counts i ((get_or counts i (key, 0)).0, suc n + 1)
    ∙ sym (ap (λ b. cond b (length counts + 1) (length counts)) (not_none n))
known_keys counts i (suc zero) key false some at =
    ap length (sym at.removes) ∙ (let shorter = length-remove counts i at.within in omega arith)
known_keys counts i (suc (suc n)) key false some at =
    ap (λ m. length (with_count counts key m)) (one_less n)
    ∙ ap length (written counts key (suc n) (omega arith) ∙ sym (at.writes (key, 0) (suc n)))
    ∙ length-set counts i ((get_or counts i (key, 0)).0, suc n)
    ∙ sym (ap (λ b. cond b (length counts - 1) (length counts)) (not_one n))

known_cost : (counts : Counts) (i n : ℕ) (key : Key) (up : Bool)
    → 1 ≤ n
    → IsPlaceOf key_cmp key counts i
    → total_cost (with_count counts key (count_after up n)) ≡ total_after up n (total_cost counts) (cost_of key)
known_cost counts i zero key up some at = absurd (omega arith)
known_cost counts i (suc n) key true some at =
    ap total_cost (written counts key (suc n + 1) (omega arith) ∙ sym (at.writes (key, 0) (suc n + 1)))
    ∙ total_set counts i (suc n + 1) (key, 0) at.within
    ∙ sym (ap (λ b. cond b (total_cost counts + cost_of key) (total_cost counts)) (not_none n))
known_cost counts i (suc zero) key false some at =
    let less = total_removed counts i (key, 0) at.within in
    let same = tied_cost key (get_or counts i (key, 0)).0 (at.ties (key, 0)) in
    ap total_cost (sym at.removes) ∙ omega arith
known_cost counts i (suc (suc n)) key false some at =
    ap (λ m. total_cost (with_count counts key m)) (one_less n)
    ∙ ap total_cost (written counts key (suc n) (omega arith) ∙ sym (at.writes (key, 0) (suc n)))
    ∙ total_set counts i (suc n) (key, 0) at.within
    ∙ sym (ap (λ b. cond b (total_cost counts - cost_of key) (total_cost counts)) (not_one n))

-- the same of any key
pub record Totals (counts : Counts) (delta : Delta) : Type 0 where
  pub keys : length (counts_after counts delta) ≡ total_after delta.up (count_of counts delta.key) (length counts) 1
  pub cost : total_cost (counts_after counts delta)
      ≡ total_after delta.up (count_of counts delta.key) (total_cost counts) (cost_of delta.key)

new_keys : (counts : Counts) (i : ℕ) (key : Key)
    → IsGapFor key_cmp key counts i
    → length (with_count counts key 1) ≡ length counts + 1
new_keys counts i key at = ap length (sym (at.inserts 1)) ∙ length-insert counts i (key, 1) at.within

new_cost : (counts : Counts) (i : ℕ) (key : Key)
    → IsGapFor key_cmp key counts i
    → total_cost (with_count counts key 1) ≡ total_cost counts + cost_of key
new_cost counts i key at = ap total_cost (sym (at.inserts 1)) ∙ total_added counts key 1 i

pub totals_are : (counts : Counts) (delta : Delta)
    → IsInterest counts
    → delta_fault counts delta ≡ None
    → Totals counts delta
unfolding counts_after
totals_are counts delta is taken =
    ⊎_elim (λ (at : (i : ℕ) × IsPlaceOf key_cmp delta.key counts i). known at.0 at.1)
    (λ (at : (i : ℕ) × IsGapFor key_cmp delta.key counts i). new at.0 at.1 delta.up refl)
    (placed key_order_total delta.key counts is.rising)
  where
    known : (i : ℕ) → IsPlaceOf key_cmp delta.key counts i → Totals counts delta
    known i at =
        let fits = counted_at counts i (delta.key, 0) is at.within in
        let some : 1 ≤ count_of counts delta.key =
        subst (λ n. 1 ≤ n) (sym (count_at counts delta.key i (delta.key, 0) at)) fits.0 in
        record {
          keys = known_keys counts i (count_of counts delta.key) delta.key delta.up some at;
          cost = known_cost counts i (count_of counts delta.key) delta.key delta.up some at;
        }

    new : (i : ℕ) → IsGapFor key_cmp delta.key counts i → (up : Bool) → delta.up ≡ up → Totals counts delta
    new i at true is_up =
        let none = no_count counts delta.key i at in
        record {
          keys =
              ap (λ n. length (with_count counts delta.key (count_after delta.up n))) none
              ∙ ap (λ up. length (with_count counts delta.key (count_after up 0))) is_up
              ∙ new_keys counts i delta.key at
              ∙ sym (ap (λ up. total_after up 0 (length counts) 1) is_up)
              ∙ sym (ap (λ n. total_after delta.up n (length counts) 1) none);
          cost =
              ap (λ n. total_cost (with_count counts delta.key (count_after delta.up n))) none
              ∙ ap (λ up. total_cost (with_count counts delta.key (count_after up 0))) is_up
              ∙ new_cost counts i delta.key at
              ∙ sym (ap (λ up. total_after up 0 (total_cost counts) (cost_of delta.key)) is_up)
              ∙ sym (ap (λ n. total_after delta.up n (total_cost counts) (cost_of delta.key)) none);
        }
    new i at false is_up =
        absurd (none-some _ (sym taken ∙ closing_of_unknown counts delta is_up (no_count counts delta.key i at)))

-- ---- where the count stands before the delta of this place

abbrev pub CountedSoFar : Counts → List Delta → ℕ → ℕ → ℕ → ℕ → Type 0
CountedSoFar counts deltas i keys bytes changes = record {
  valid : IsInterest (counts_told counts (take i deltas));
  keys : keys ≡ length (counts_told counts (take i deltas));
  bytes : bytes ≡ total_cost (counts_told counts (take i deltas));
  few : changes ≤ i;
  refused : are_refused (counts_told counts (take i deltas)) (drop i deltas) ≡ are_refused counts deltas;
  told : changes + length (changes_told (counts_told counts (take i deltas)) (drop i deltas))
      ≡ length (changes_told counts deltas);
}

pub number_here : (counts : Counts) (deltas : List Delta) (key : Key) (n before : ℕ)
    → IsInterest counts
    → before ≡ count_of counts key
    → n ≡ number_behind deltas key before
    → n ≡ count_of (counts_told counts deltas) key
number_here counts deltas key n before is weight same =
    same ∙ ap (number_behind deltas key) weight ∙ sym (number_is_behind deltas counts key is.rising)

pub fault_here : (counts : Counts) (delta : Delta) (keys bytes n : ℕ)
    → keys ≡ length counts
    → bytes ≡ total_cost counts
    → n ≡ count_of counts delta.key
    → is_some (delta_fault counts delta) ≡ is_refused_of keys bytes delta n
fault_here counts delta keys bytes n keys_are bytes_are number =
    refused_is counts delta
    ∙ ap (λ k. is_refused_of k (total_cost counts) delta (count_of counts delta.key)) (sym keys_are)
    ∙ ap (λ b. is_refused_of keys b delta (count_of counts delta.key)) (sym bytes_are)
    ∙ ap (is_refused_of keys bytes delta) (sym number)

pub refused_here : (counts : Counts) (deltas : List Delta) (i keys bytes changes n : ℕ) (delta : Delta)
    → CountedSoFar counts deltas i keys bytes changes
    → i < length deltas
    → delta ≡ get_or deltas i delta
    → n ≡ count_of (counts_told counts (take i deltas)) delta.key
    → is_refused_of keys bytes delta n ≡ true
    → are_refused counts deltas ≡ true
refused_here counts deltas i keys bytes changes n delta here lt at number is =
    let so_far : Counts = counts_told counts (take i deltas) in
    sym here.refused
    ∙ ap (are_refused so_far) (left_from deltas i delta lt at)
    ∙ ap (λ b. b || are_refused (counts_after so_far delta) (drop (suc i) deltas))
    (fault_here so_far delta keys bytes n here.keys here.bytes number ∙ is)

pub counted_next : (counts : Counts) (deltas : List Delta) (i keys bytes changes n cost more keys_next bytes_next : ℕ)
    (delta : Delta)
    → CountedSoFar counts deltas i keys bytes changes
    → i < length deltas
    → delta ≡ get_or deltas i delta
    → n ≡ count_of (counts_told counts (take i deltas)) delta.key
    → is_refused_of keys bytes delta n ≡ false
    → keys_next ≡ total_after delta.up n keys 1
    → cost ≡ cost_of delta.key
    → bytes_next ≡ total_after delta.up n bytes cost
    → more ≡ cond (is_told_of delta.key n (count_after delta.up n)) 1 0
    → CountedSoFar counts deltas (suc i) keys_next bytes_next (changes + more)
counted_next counts deltas i keys bytes changes n cost more keys_next bytes_next delta here lt at number is keys_are
    cost_is bytes_are more_is = record {
      valid = subst IsInterest (sym same) (stays_within so_far delta here.valid taken);
      keys =
          keys_are
          ∙ ap (λ n. total_after delta.up n keys 1) number
          ∙ ap (λ k. total_after delta.up (count_of so_far delta.key) k 1) here.keys
          ∙ sym totals.keys
          ∙ ap length (sym same);
      bytes =
          bytes_are
          ∙ ap (λ n. total_after delta.up n bytes cost) number
          ∙ ap (λ b. total_after delta.up (count_of so_far delta.key) b cost) here.bytes
          ∙ ap (total_after delta.up (count_of so_far delta.key) (total_cost so_far)) cost_is
          ∙ sym totals.cost
          ∙ ap total_cost (sym same);
      few =
          let one = at_most_one (is_told_of delta.key n (count_after delta.up n)) in let few = here.few in omega arith;
      refused =
          ap (λ (c : Counts). are_refused c left) same
          ∙ sym (ap (are_refused so_far) (left_from deltas i delta lt at)
          ∙ ap (λ b. b || are_refused (counts_after so_far delta) left) not)
          ∙ here.refused;
      told =
          let joined : length (changes_told so_far (drop i deltas))
          ≡ length (option_to_list (change_of so_far delta)) + length (changes_told (counts_after so_far delta) left) =
          ap (λ ds. length (changes_told so_far ds)) (left_from deltas i delta lt at)
          ∙ length_joined (option_to_list (change_of so_far delta)) (changes_told (counts_after so_far delta) left) in
          let first : length (option_to_list (change_of so_far delta)) ≡ more =
          told_is so_far delta
          ∙ ap (λ n. cond (is_told_of delta.key n (count_after delta.up n)) 1 0) (sym number)
          ∙ sym more_is in
          let rest : length (changes_told (counts_told counts (take (suc i) deltas)) left)
          ≡ length (changes_told (counts_after so_far delta) left) =
          ap (λ (c : Counts). length (changes_told c left)) same in
          let all = here.told in
          omega arith;
    }
  where
    so_far : Counts
    so_far = counts_told counts (take i deltas)

    left : List Delta
    left = drop (suc i) deltas

    same : counts_told counts (take (suc i) deltas) ≡ counts_after so_far delta
    same = told_next counts deltas i delta lt at

    not : is_some (delta_fault so_far delta) ≡ false
    not = fault_here so_far delta keys bytes n here.keys here.bytes number ∙ is

    taken : delta_fault so_far delta ≡ None
    taken = none_if (delta_fault so_far delta) not

    totals : Totals so_far delta
    totals = totals_are so_far delta here.valid taken

    at_most_one : (b : Bool) → cond b 1 0 ≤ 1
    at_most_one true = omega arith
    at_most_one false = omega arith
