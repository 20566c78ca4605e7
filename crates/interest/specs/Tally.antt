-- Deltas counted in order without a table: what each makes of a number, of a total and of what is
-- told.
use Rattle.std.specs.Prelude.{ℕ, ◌+◌, ◌-◌, Bool, not, ◌&&◌, ◌||◌, nat_eq, nat_lt, nat_le, List, [], ◌∷◌, ◌++◌, length, Option, Some, None, if◌then◌else◌}
use Rattle.std.specs.Ordering.{is_eq}
use Rattle.subj.specs.declared.limits.TheConstants.{MAX_KEYS, MAX_WEIGHT, SUBSCRIPTION_BYTES}
use Rattle.subj.specs.declared.keys.Key.{Key}
use Rattle.subj.specs.Keys.{key_cmp, cost_of}
use Rattle.subj.specs.declared.keys.Delta.{Delta}
use Rattle.interest.specs.Counts.{Counts, count_of, count_after, counts_after, is_plain}
use Rattle.interest.specs.Told.{changes_told, are_refused}

-- how many changes peers are told of these deltas; None where one of them would be refused
abbrev pub changes_counted : Counts → List Delta → Option ℕ
changes_counted counts deltas =
    if are_refused counts deltas then None else Some (length (changes_told counts deltas))

-- the number of a key after some deltas
abbrev pub number_behind : List Delta → Key → ℕ → ℕ
number_behind [] key n = n
number_behind (delta ∷ deltas) key n =
    number_behind deltas key (if is_eq (key_cmp key delta.key) then count_after delta.up n else n)

-- with so many keys of so many bytes, a delta of a key of this number would be refused
abbrev pub is_refused_of : ℕ → ℕ → Delta → ℕ → Bool
is_refused_of keys bytes delta n =
    if delta.up
    then (if nat_eq n 0
    then nat_le MAX_KEYS keys || nat_lt SUBSCRIPTION_BYTES (bytes + cost_of delta.key)
    else nat_le MAX_WEIGHT n)
    else nat_eq n 0

-- a total over the keys, where one that weighs this may come or go
abbrev pub total_after : Bool → ℕ → ℕ → ℕ → ℕ
total_after up n total weight =
    if up && nat_eq n 0 then total + weight
    else (if not up && nat_eq n 1 then total - weight else total)

-- peers are told of a key whose number changes
abbrev pub is_told_of : Key → ℕ → ℕ → Bool
is_told_of key before after = nat_eq after 0 || not (is_plain key && nat_lt 0 before)

-- the delta opens a key that has no open subscription
abbrev pub opens_key : Counts → Delta → Bool
opens_key counts delta = delta.up && nat_eq (count_of counts delta.key) 0

abbrev pub key_if : Bool → Key → List Key
key_if there key = if there then key ∷ [] else []

-- the keys that deltas open so, in order
abbrev pub keys_opened : Counts → List Delta → List Key
keys_opened counts [] = []
keys_opened counts (delta ∷ deltas) =
    key_if (opens_key counts delta) delta.key ++ keys_opened (counts_after counts delta) deltas
