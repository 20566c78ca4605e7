-- Interest counts: of a set of open subscriptions, for each key the number of them.
use Rattle.std.specs.Prelude.{◌≡◌, ℕ, ◌+◌, ◌-◌, ◌≤◌, Bool, ◌&&◌, ◌||◌, nat_eq, nat_lt, nat_le, is_none, List, length, sum_by, All, Option, Some, None, unwrap_or, if◌then◌else◌}
use Rattle.std.specs.List.Sorted.{IsStrictlySortedBy}
use Rattle.std.specs.Map.{keys_of, values_of, lookup, remove_entry}
use Rattle.std.specs.BTreeMap.{is_at, insert_entry}
use Rattle.subj.specs.declared.limits.TheConstants.{MAX_KEYS, MAX_WEIGHT, SUBSCRIPTION_BYTES}
use Rattle.subj.specs.declared.keys.Key.{Key}
use Rattle.subj.specs.Matching.{subject_matches}
use Rattle.interest.specs.declared.faults.InterestFault.{InterestFault}
use Rattle.interest.specs.declared.faults.InterestFault.TheVariants.{UnknownKey, TooManyKeys}
use Rattle.subj.specs.declared.keys.Delta.{Delta}
use Rattle.interest.specs.declared.changes.Change.{Change}
use Rattle.interest.specs.declared.changes.Change.TheVariants.{Up, Gone}
use Rattle.subj.specs.Keys.{key_cmp, cost_of}

-- keys in order, each with the number of its open subscriptions
abbrev pub Counts : Type 0
Counts = List (Key × ℕ)

-- the number of the open subscriptions of a key
abbrev pub count_of : Counts → Key → ℕ
count_of counts key = unwrap_or (lookup (is_at (key_cmp key)) counts) 0

-- NATS documentation, "Queue Groups": a subscription without a queue name is plain
abbrev pub is_plain : Key → Bool
is_plain key = is_none key.queue

-- profile: what the keys count together towards the limit of bytes
abbrev pub total_cost : Counts → ℕ
total_cost counts = sum_by (λ entry. cost_of entry.0) counts

-- ---- a delta: one subscription of a key opens or closes

abbrev pub count_after : Bool → ℕ → ℕ
count_after up count = if up then count + 1 else count - 1

abbrev pub with_count : Counts → Key → ℕ → Counts
with_count counts key count =
    if nat_eq count 0 then remove_entry (is_at (key_cmp key)) counts
    else insert_entry key_cmp counts key count

unfoldable pub counts_after : Counts → Delta → Counts
counts_after counts delta =
    with_count counts delta.key (count_after delta.up (count_of counts delta.key))

-- profile: one more key would be too many, or of too many bytes
abbrev pub is_full : Counts → Key → Bool
is_full counts key =
    nat_le MAX_KEYS (length counts) || nat_lt SUBSCRIPTION_BYTES (total_cost counts + cost_of key)

-- profile: there would be too many keys, too many subscriptions of the key, or too many bytes
abbrev pub is_too_much : Counts → Key → Bool
is_too_much counts key =
    if nat_eq (count_of counts key) 0 then is_full counts key
    else nat_le MAX_WEIGHT (count_of counts key)

abbrev pub too_many_if : Bool → Option InterestFault
too_many_if there = if there then Some TooManyKeys else None

unfoldable pub delta_fault : Counts → Delta → Option InterestFault
delta_fault counts delta =
    if delta.up then too_many_if (is_too_much counts delta.key)
    else (if nat_eq (count_of counts delta.key) 0 then Some UnknownKey else None)

-- profile: what peers are told that a key weighs, 1 where it is plain, and else the number open
abbrev pub told_weight : Key → ℕ → ℕ
told_weight key count = if is_plain key then 1 else count

-- NATS documentation, "Cluster Protocol": `RS+` and `RS-`; profile: a plain key is told of on its
-- first opening and its last closing, a queue key each time
abbrev pub change_between : Key → ℕ → ℕ → Option Change
change_between key before after =
    if nat_eq after 0 then Some (Gone key)
    else (if is_plain key && nat_lt 0 before then None else Some (Up (key, told_weight key after)))

unfoldable pub change_of : Counts → Delta → Option Change
change_of counts delta =
    change_between delta.key (count_of counts delta.key)
    (count_after delta.up (count_of counts delta.key))

-- some plain key matches the subject
abbrev pub is_plain_match : List ℕ → Key × ℕ → Bool
is_plain_match subject entry = is_plain entry.0 && subject_matches entry.0.pattern subject

-- keys in strictly rising order, within the limits
pub record IsInterest (counts : Counts) : Type 0 where
  pub rising : IsStrictlySortedBy key_cmp (keys_of counts)
  pub counted : All (λ count. (1 ≤ count) × (count ≤ MAX_WEIGHT)) (values_of counts)
  pub few : length counts ≤ MAX_KEYS
  pub small : total_cost counts ≤ SUBSCRIPTION_BYTES

-- counts as they are kept: with what the keys count together, and with so many places, which are
-- enough for all keys that may come
pub record IsKept (counts : Counts) (cost places : ℕ) : Type 0 where
  pub valid : IsInterest counts
  pub cost_is : cost ≡ total_cost counts
  pub room : MAX_KEYS ≤ places
