-- What deltas do, as far as those before one place.
use Rattle.std.proofs.Common.{◌≡◌, ℕ, suc, ◌<◌, ◌≤◌, Bool, true, false, ◌&&◌, ◌||◌, List, ◌++◌, length, take, drop, get_or, Option, None, Some, refl, sym, ap, ◌∙◌, subst, arith, ⊎_elim}
use Rattle.std.specs.Prelude.{nat_eq, is_some, option_to_list}
use Rattle.subj.specs.declared.keys.Key.{Key}
use Rattle.subj.specs.declared.limits.TheConstants.{MAX_WEIGHT}
use Rattle.subj.specs.Keys.{key_cmp}
use Rattle.std.proofs.lemmas.List.{append_assoc}
use Rattle.interest.specs.declared.changes.Change.{Change}
use Rattle.subj.specs.declared.keys.Delta.{Delta}
use Rattle.interest.specs.declared.faults.InterestFault.{InterestFault}
use Rattle.interest.specs.Places.{IsPlaceOf, IsGapFor}
use Rattle.interest.specs.Counts.{Counts, count_of, count_after, counts_after, change_between, change_of, delta_fault, IsInterest}
use Rattle.interest.specs.Told.{counts_told, changes_told, are_refused}
use Rattle.interest.specs.Tally.{key_if, keys_opened, opens_key}
use Rattle.interest.proofs.Counting.Agreement.{stays_within}
use Rattle.interest.proofs.Counting.InPlace.{not_refused, number_left}
use Rattle.interest.proofs.Counting.Entries.{count_at, no_count, counted_at}
use Rattle.interest.proofs.Counting.InOrder.{told_next, left_from}
use Rattle.interest.specs.KeyOrder.{key_order_total}
use Rattle.interest.proofs.Counting.Ties.{placed}

abbrev pub Planned : Counts → List Delta → ℕ → List Key → List Change → Type 0
Planned counts deltas i opened changes = record {
  valid : IsInterest (counts_told counts (take i deltas));
  taken : are_refused (counts_told counts (take i deltas)) (drop i deltas) ≡ false;
  opened : opened ++ keys_opened (counts_told counts (take i deltas)) (drop i deltas) ≡ keys_opened counts deltas;
  changes : changes ++ changes_told (counts_told counts (take i deltas)) (drop i deltas) ≡ changes_told counts deltas;
}

-- the next one is not refused, nor are those behind it
pub both_not : (a b : Bool) → (a || b) ≡ false → (a ≡ false) × (b ≡ false)
both_not true b is = cc
both_not false b is = (refl, is)

pub none_is : (fault : Option InterestFault) → is_some fault ≡ false → fault ≡ None
none_is None is = refl
none_is (Some fault) is = cc

module _ (counts : Counts) (deltas : List Delta) (i : ℕ) (delta : Delta) where
  first_of : are_refused (counts_told counts (take i deltas)) (drop i deltas) ≡ false
      → i < length deltas
      → delta ≡ get_or deltas i delta
      → (delta_fault (counts_told counts (take i deltas)) delta ≡ None)
      × (are_refused (counts_after (counts_told counts (take i deltas)) delta) (drop (suc i) deltas) ≡ false)
  first_of taken lt at =
      let two = both_not (is_some (delta_fault (counts_told counts (take i deltas)) delta))
      (are_refused (counts_after (counts_told counts (take i deltas)) delta) (drop (suc i) deltas))
      (sym (ap (are_refused (counts_told counts (take i deltas))) (left_from deltas i delta lt at)) ∙ taken) in
      (none_is (delta_fault (counts_told counts (take i deltas)) delta) two.0, two.1)

pub number_most : (counts : Counts) (key : Key) → IsInterest counts → count_of counts key ≤ MAX_WEIGHT
number_most counts key is =
    ⊎_elim (λ (at : (i : ℕ) × IsPlaceOf key_cmp key counts i).
    subst (λ n. n ≤ MAX_WEIGHT) (sym (count_at counts key at.0 (key, 0) at.1))
    (counted_at counts at.0 (key, 0) is at.1.within).1)
    (λ (at : (i : ℕ) × IsGapFor key_cmp key counts i). let none = no_count counts key at.0 at.1 in omega arith)
    (placed key_order_total key counts is.rising)

pub planned_most : (counts : Counts) (deltas : List Delta) (i : ℕ) (delta : Delta) (n : ℕ)
    → IsInterest (counts_told counts (take i deltas))
    → n ≡ count_of (counts_told counts (take i deltas)) delta.key
    → n ≤ MAX_WEIGHT
planned_most counts deltas i delta n valid number =
    subst (λ n. n ≤ MAX_WEIGHT) (sym number) (number_most (counts_told counts (take i deltas)) delta.key valid)

pub planned_fits : (counts : Counts) (deltas : List Delta) (i : ℕ) (delta : Delta) (n : ℕ)
    → IsInterest (counts_told counts (take i deltas))
    → are_refused (counts_told counts (take i deltas)) (drop i deltas) ≡ false
    → i < length deltas
    → delta ≡ get_or deltas i delta
    → n ≡ count_of (counts_told counts (take i deltas)) delta.key
    → count_after delta.up n ≤ MAX_WEIGHT
planned_fits counts deltas i delta n valid taken lt at number =
    number_left delta _ _ n
    (not_refused (counts_told counts (take i deltas)) delta n (sym number)
    (first_of counts deltas i delta taken lt at).0)
    (planned_most counts deltas i delta n valid number)

pub change_here : (counts : Counts) (delta : Delta) (n : ℕ)
    → n ≡ count_of counts delta.key
    → change_between delta.key n (count_after delta.up n) ≡ change_of counts delta
unfolding change_of
change_here counts delta n number = ap (λ n. change_between delta.key n (count_after delta.up n)) number

pub planned_next : (counts : Counts) (deltas : List Delta) (i : ℕ) (delta : Delta) (n : ℕ) (opened : List Key)
    (changes : List Change) (opened_next : List Key) (changes_next : List Change)
    → Planned counts deltas i opened changes
    → i < length deltas
    → delta ≡ get_or deltas i delta
    → n ≡ count_of (counts_told counts (take i deltas)) delta.key
    → opened_next ≡ opened ++ key_if (delta.up && nat_eq n 0) delta.key
    → changes_next ≡ changes ++ option_to_list (change_between delta.key n (count_after delta.up n))
    → Planned counts deltas (suc i) opened_next changes_next
planned_next counts deltas i delta n opened changes opened_next changes_next here lt at number opened_are changes_are =
    let s : Counts = counts_told counts (take i deltas) in
    let two = first_of counts deltas i delta here.taken lt at in
    let same = told_next counts deltas i delta lt at in
    let left = left_from deltas i delta lt at in
    let after : Counts = counts_after s delta in
    record {
      valid = subst IsInterest (sym same) (stays_within s delta here.valid two.0);
      taken = ap (λ (cs : Counts). are_refused cs (drop (suc i) deltas)) same ∙ two.1;
      opened =
          ap (λ (cs : Counts). opened_next ++ keys_opened cs (drop (suc i) deltas)) same
          ∙ ap (λ (l : List Key). l ++ keys_opened after (drop (suc i) deltas))
          (opened_are ∙ ap (λ m. opened ++ key_if (delta.up && nat_eq m 0) delta.key) number)
          ∙ append_assoc opened (key_if (opens_key s delta) delta.key) (keys_opened after (drop (suc i) deltas))
          ∙ ap (λ ds. opened ++ keys_opened s ds) (sym left)
          ∙ here.opened;
      changes =
          ap (λ (cs : Counts). changes_next ++ changes_told cs (drop (suc i) deltas)) same
          ∙ ap (λ (l : List Change). l ++ changes_told after (drop (suc i) deltas))
          (changes_are ∙ ap (λ c. changes ++ option_to_list c) (change_here s delta n number))
          ∙ append_assoc changes (option_to_list (change_of s delta)) (changes_told after (drop (suc i) deltas))
          ∙ ap (λ ds. changes ++ changes_told s ds) (sym left)
          ∙ here.changes;
    }
