-- Where no key with a queue name was ever counted, none is there.
use Rattle.std.proofs.Common.{◌≡◌, ℕ, Bool, true, false, ◌&&◌, ◌||◌, cond, not, nat_eq, List, [], ◌∷◌, refl, ap, ◌∙◌}
use Rattle.std.specs.List.{list_any}
use Rattle.std.specs.Map.{remove_entry}
use Rattle.std.specs.BTreeMap.{is_at, insert_entry}
use Rattle.std.specs.Ordering.{match_ordering}
use Rattle.std.specs.declared.cmp.Ordering.{Ordering}
use Rattle.std.specs.declared.cmp.Ordering.TheVariants.{Less, Equal, Greater}
use Rattle.list_laws.proofs.Tests.{and_true, or_false, not_false}
use Rattle.subj.specs.declared.keys.Key.{Key}
use Rattle.subj.specs.declared.keys.Delta.{Delta}
use Rattle.subj.specs.Keys.{key_cmp}
use Rattle.subj.specs.Matching.{subject_matches}
use Rattle.interest.specs.Counts.{Counts, is_plain, count_of, count_after, with_count, counts_after}
use Rattle.interest.specs.Told.{counts_told}
use Rattle.interest.specs.Matches.{has_queue_match}
use Rattle.hub_core.specs.InMind.{is_of_queue, are_plain}

pub none_matches : (subject : List ℕ) (counts : Counts)
    → are_plain counts ≡ true
    → has_queue_match subject counts ≡ false
none_matches subject [] plain = refl
none_matches subject (e ∷ es) plain =
    let parts = and_true (is_plain e.0) (are_plain es) plain in
    ap (λ b. (not b && subject_matches e.0.pattern subject) || has_queue_match subject es) parts.0
    ∙ none_matches subject es parts.1

plain_left : (test : Key → Bool) (counts : Counts)
    → are_plain counts ≡ true
    → are_plain (remove_entry test counts) ≡ true
plain_left test [] plain = refl
plain_left test (e ∷ es) plain = go (plain_left test es) (and_true (is_plain e.0) (are_plain es) plain) (test e.0)
  where
    go : (are_plain es ≡ true → are_plain (remove_entry test es) ≡ true)
        → (is_plain e.0 ≡ true) × (are_plain es ≡ true)
        → (b : Bool)
        → are_plain (cond b es (e ∷ remove_entry test es)) ≡ true
    go later parts true = parts.1
    go later parts false = (λ k. parts.0 k && later parts.1 k)

plain_put : (key : Key) (n : ℕ) (counts : Counts)
    → is_plain key ≡ true
    → are_plain counts ≡ true
    → are_plain (insert_entry key_cmp counts key n) ≡ true
plain_put key n [] one plain = (λ k. one k && true)
plain_put key n (e ∷ es) one plain =
    go (plain_put key n es one) (and_true (is_plain e.0) (are_plain es) plain) (key_cmp key e.0)
  where
    go : (are_plain es ≡ true → are_plain (insert_entry key_cmp es key n) ≡ true)
        → (is_plain e.0 ≡ true) × (are_plain es ≡ true)
        → (o : Ordering)
        → are_plain (match_ordering o ((key, n) ∷ e ∷ es) ((e.0, n) ∷ es) (e ∷ insert_entry key_cmp es key n)) ≡ true
    go later parts Less = (λ k. one k && plain k)
    go later parts Equal = (λ k. parts.0 k && parts.1 k)
    go later parts Greater = (λ k. parts.0 k && later parts.1 k)

plain_with : (counts : Counts) (key : Key) (n : ℕ)
    → is_plain key ≡ true
    → are_plain counts ≡ true
    → are_plain (with_count counts key n) ≡ true
plain_with counts key n one plain = go (nat_eq n 0)
  where
    go : (b : Bool)
        → are_plain (cond b (remove_entry (is_at (key_cmp key)) counts) (insert_entry key_cmp counts key n)) ≡ true
    go true = plain_left (is_at (key_cmp key)) counts plain
    go false = plain_put key n counts one plain

plain_after : (counts : Counts) (delta : Delta)
    → is_plain delta.key ≡ true
    → are_plain counts ≡ true
    → are_plain (counts_after counts delta) ≡ true
unfolding counts_after
plain_after counts delta one plain =
    plain_with counts delta.key (count_after delta.up (count_of counts delta.key)) one plain

pub plain_told : (counts : Counts) (deltas : List Delta)
    → list_any is_of_queue deltas ≡ false
    → are_plain counts ≡ true
    → are_plain (counts_told counts deltas) ≡ true
plain_told counts [] none plain = plain
plain_told counts (delta ∷ deltas) none plain =
    let parts = or_false (is_of_queue delta) (list_any is_of_queue deltas) none in
    plain_told (counts_after counts delta) deltas parts.1
    (plain_after counts delta (not_false (is_plain delta.key) parts.0) plain)
