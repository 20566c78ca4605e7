-- Keys with their weights, and the text of a snapshot of them.
use Rattle.std.specs.Prelude.{ℕ, ◌≤◌, Bool, true, ◌&&◌, nat_eq, nat_le, List, [], ◌∷◌, ◌++◌, length, sum_by, codes, decimal, is_none, Option, Some, None, if◌then◌else◌}
use Rattle.std.specs.List.{flat_map}
use Rattle.std.specs.List.Sorted.{IsStrictlySortedBy}
use Rattle.std.specs.Map.{keys_of}
use Rattle.std.specs.Ordering.{is_lt}
pub use Rattle.line_fields.specs.LineEnd.{line_end}
use Rattle.subj.specs.declared.limits.TheConstants.{MAX_WEIGHT, MAX_KEYS, MAX_SNAPSHOT, SUBSCRIPTION_BYTES}
use Rattle.subj.specs.declared.keys.Key.{Key}
use Rattle.subj.specs.Keys.{key_cmp, cost_of}

abbrev pub Weighted : Type 0
Weighted = Key × ℕ

-- profile: a plain key weighs 1, and a key with a queue name as many as its members
abbrev pub is_weight : Key → ℕ → Bool
is_weight key weight =
    if is_none key.queue then nat_eq weight 1 else nat_le 1 weight && nat_le weight MAX_WEIGHT

abbrev pub weighted_key : Key → ℕ → Option Weighted
weighted_key key weight = if is_weight key weight then Some (key, weight) else None

-- profile: a key is a line, its pattern, or its pattern, its queue name and its weight with one
-- space between them, ended by CR LF
abbrev pub queue_fields : Option (List ℕ) → ℕ → List ℕ
queue_fields None weight = []
queue_fields (Some queue) weight = codes " " ++ (queue ++ (codes " " ++ decimal weight))

unfoldable pub key_line : Weighted → List ℕ
key_line entry = entry.0.pattern ++ (queue_fields entry.0.queue entry.1 ++ line_end)

abbrev pub snapshot_text : List Weighted → List ℕ
snapshot_text keys = flat_map key_line keys

abbrev pub is_before_first : Weighted → List Weighted → Bool
is_before_first entry [] = true
is_before_first entry (other ∷ others) = is_lt (key_cmp entry.0 other.0)

abbrev pub are_rising : List Weighted → Bool
are_rising [] = true
are_rising (entry ∷ others) = is_before_first entry others && are_rising others

-- profile: a snapshot has each key once, in order, and its text has a limit
abbrev pub is_short : List Weighted → Bool
is_short keys = nat_le (length (snapshot_text keys)) MAX_SNAPSHOT

abbrev pub are_snapshot_keys : List Weighted → Bool
are_snapshot_keys keys = is_short keys && are_rising keys

abbrev pub snapshot_of : List Weighted → Option (List Weighted)
snapshot_of keys = if are_snapshot_keys keys then Some keys else None

-- profile: what keys count together towards the limit of bytes
abbrev pub total_cost : List Weighted → ℕ
total_cost keys = sum_by (λ entry. cost_of entry.0) keys

-- profile: keys such as a server may have interest in: in strictly rising order, and within the
-- limits of keys and bytes
pub record IsKept (keys : List Weighted) : Type 0 where
  pub rising : IsStrictlySortedBy key_cmp (keys_of keys)
  pub few : length keys ≤ MAX_KEYS
  pub small : total_cost keys ≤ SUBSCRIPTION_BYTES
