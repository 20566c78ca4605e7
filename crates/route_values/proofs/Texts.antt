-- The length of a snapshot's text, line by line.
use Rattle.std.proofs.Common.{◌≡◌, ℕ, ◌+◌, ◌<◌, ◌≤◌, true, ◌&&◌, List, [], ◌∷◌, length, get_or, take, ap, ap₂, refl, sym, ◌∙◌, arith, Less, is_lt}
use Rattle.std.specs.List.Sorted.{IsStrictlySortedBy}
use Rattle.std.specs.List.{AllByRecursion}
use Rattle.std.specs.Map.{keys_of}
use Rattle.subj.specs.Keys.{key_cmp, cost_of}
use Rattle.std.specs.List.{sum_by}
use Rattle.std.proofs.lemmas.List.Concat.{length-flat_map}
use Rattle.std.proofs.lemmas.List.Sums.{sum_by_more, sum_by-take-le}
use Rattle.route_values.specs.Snapshots.{Weighted, key_line, snapshot_text, total_cost, is_before_first, are_rising, IsKept}

text_len : (keys : List Weighted) → length (snapshot_text keys) ≡ sum_by (λ entry. length (key_line entry)) keys
text_len keys = length-flat_map key_line keys

pub one_line_more : (keys : List Weighted) (i : ℕ) (d : Weighted)
    → i < length keys
    → length (snapshot_text (take (i + 1) keys))
    ≡ length (snapshot_text (take i keys)) + length (key_line (get_or keys i d))
one_line_more keys i d below =
    text_len (take (i + 1) keys)
    ∙ sum_by_more (λ entry. length (key_line entry)) keys i d below
    ∙ ap (λ n. n + length (key_line (get_or keys i d))) (sym (text_len (take i keys)))

pub part_of_text : (keys : List Weighted) (i : ℕ) → length (snapshot_text (take i keys)) ≤ length (snapshot_text keys)
part_of_text keys i =
    let part = sum_by-take-le (λ entry. length (key_line entry)) keys i in
    omega (arith, text_len keys, text_len (take i keys))

pub one_cost_more : (keys : List Weighted) (i : ℕ) (d : Weighted)
    → i < length keys
    → total_cost (take (i + 1) keys) ≡ total_cost (take i keys) + cost_of (get_or keys i d).0
one_cost_more keys i d below = sum_by_more (λ entry. cost_of entry.0) keys i d below

pub part_of_cost : (keys : List Weighted) (i : ℕ) → total_cost (take i keys) ≤ total_cost keys
part_of_cost keys i = sum_by-take-le (λ entry. cost_of entry.0) keys i

before_first : (entry : Weighted) (others : List Weighted)
    → AllByRecursion (λ key. key_cmp entry.0 key ≡ Less) (keys_of others)
    → is_before_first entry others ≡ true
before_first entry [] each = refl
before_first entry (other ∷ others) each = ap is_lt each.0

-- keys in strict order rise, each below the next
rising_from_sorted : (keys : List Weighted) → IsStrictlySortedBy key_cmp (keys_of keys) → are_rising keys ≡ true
unfolding IsStrictlySortedBy
rising_from_sorted [] sorted = refl
rising_from_sorted (entry ∷ others) sorted =
    ap₂ (λ a b. a && b) (before_first entry others sorted.0) (rising_from_sorted others sorted.1)

pub kept_are_rising : (keys : List Weighted) → IsKept keys → are_rising keys ≡ true
kept_are_rising keys kept = rising_from_sorted keys kept.rising
