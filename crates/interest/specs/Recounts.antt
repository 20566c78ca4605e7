-- Many keys take their numbers at once: what stands below a key goes on, the key takes its number,
-- and so on.
use Rattle.std.specs.Prelude.{◌≡◌, ℕ, ◌≤◌, ◌+◌, Bool, true, false, nat_eq, List, [], ◌∷◌, ◌++◌, length, unwrap_or, option_to_list, Option, Some, None, vec_capacity, if◌then◌else◌}
use Rattle.std.specs.Ordering.{is_lt, is_eq}
use Rattle.std.specs.List.Sorted.{IsStrictlySortedBy}
use Rattle.std.specs.Map.{keys_of, lookup}
use Rattle.std.specs.BTreeMap.{is_at, insert_entry}
use Rattle.subj.specs.declared.keys.Key.{Key}
use Rattle.subj.specs.declared.limits.TheConstants.{MAX_KEYS}
use Rattle.subj.specs.Keys.{key_cmp, cost_of}
use Rattle.subj.specs.declared.keys.Delta.{Delta}
use Rattle.interest.specs.declared.recounts.Recount.{Recount}
use Rattle.interest.specs.declared.recounts.Recount.TheVariants.{Few, Many}
use Rattle.interest.specs.declared.tally.DeltaPlan.{DeltaPlan}
use Rattle.interest.specs.declared.tally.ManyPlan.{ManyPlan}
use Rattle.interest.specs.Counts.{Counts, count_of, count_after, with_count, change_between, total_cost}
use Rattle.interest.specs.Told.{counts_told, changes_told, are_refused}
use Rattle.interest.specs.Tally.{keys_opened, is_refused_of, total_after}

-- each of these keys takes its number, one after the other
abbrev pub with_numbers : Counts → List (Key × ℕ) → Counts
with_numbers counts [] = counts
with_numbers counts (entry ∷ numbers) = with_numbers (with_count counts entry.0 entry.1) numbers

-- ---- the same in one walk over both

abbrev pub is_first_below : Key → Counts → Bool
is_first_below key [] = false
is_first_below key (entry ∷ entries) = is_lt (key_cmp entry.0 key)

abbrev pub is_first_at : Key → Counts → Bool
is_first_at key [] = false
is_first_at key (entry ∷ entries) = is_eq (key_cmp entry.0 key)

abbrev pub below : Key → Counts → Counts
below key [] = []
below key (entry ∷ entries) = if is_lt (key_cmp entry.0 key) then entry ∷ below key entries else []

abbrev pub from_key : Key → Counts → Counts
from_key key [] = []
from_key key (entry ∷ entries) =
    if is_lt (key_cmp entry.0 key) then from_key key entries else entry ∷ entries

abbrev pub without_first : Key → Counts → Counts
without_first key [] = []
without_first key (entry ∷ entries) =
    if is_eq (key_cmp entry.0 key) then entries else entry ∷ entries

abbrev pub one_if : Key → ℕ → Counts
one_if key number = if nat_eq number 0 then [] else (key, number) ∷ []

-- ---- what deltas make of the counts

-- the number of the key among these, or the one that is counted
abbrev pub number_among : Counts → List (Key × ℕ) → Key → ℕ
number_among counts numbers key =
    unwrap_or (lookup (is_at (key_cmp key)) numbers) (count_of counts key)

-- for each key that is told of, the number of its open subscriptions after the deltas
pub record AreNumbersOf (counts : Counts) (deltas : List Delta) (numbers : List (Key × ℕ)) :
    Type 0 where
  pub rising : IsStrictlySortedBy key_cmp (keys_of numbers)
  pub are : (key : Key) → count_of (counts_told counts deltas) key ≡ number_among counts numbers key

-- few deltas: the keys that they open; many: the numbers, what the keys count together, and room
-- for all keys
abbrev pub IsRecountOf : Counts → List Delta → Recount → Type 0
IsRecountOf counts deltas (Few opened) = opened.items ≡ keys_opened counts deltas
IsRecountOf counts deltas (Many many) =
    AreNumbersOf counts deltas many.numbers.entries
    × (many.bytes ≡ total_cost (counts_told counts deltas))
    × (many.room.items ≡ [])
    × (MAX_KEYS + length many.numbers.entries ≤ vec_capacity many.room)

-- what is found of deltas before anything is changed; nothing where one of them is refused
abbrev pub IsPlanOf : Counts → List Delta → Option DeltaPlan → Type 0
IsPlanOf counts deltas None = are_refused counts deltas ≡ true
IsPlanOf counts deltas (Some plan) =
    (are_refused counts deltas ≡ false)
    × IsRecountOf counts deltas plan.recount
    × (plan.changes.items ≡ changes_told counts deltas)

-- ---- many deltas as they are counted

-- none is counted yet
abbrev pub IsPlanOfNone : Counts → ManyPlan → Type 0
IsPlanOfNone counts plan =
    (plan.numbers.entries ≡ []) × (plan.changes.items ≡ []) × (plan.keys ≡ length counts)
    × (plan.bytes ≡ total_cost counts)

-- with a key of this number, one delta more is taken
pub record IsTaken (delta : Delta) (n : ℕ) (before after : ManyPlan) : Type 0 where
  pub taken : is_refused_of before.keys before.bytes delta n ≡ false
  pub numbers : after.numbers.entries
      ≡ insert_entry key_cmp before.numbers.entries delta.key (count_after delta.up n)
  pub changes :
      after.changes.items
      ≡ before.changes.items ++ option_to_list (change_between delta.key n (count_after delta.up n))
  pub keys : after.keys ≡ total_after delta.up n before.keys 1
  pub bytes : after.bytes ≡ total_after delta.up n before.bytes (cost_of delta.key)

-- one delta more is taken, or it is refused
abbrev pub IsOneMore : Counts → Delta → ManyPlan → ManyPlan → Bool → Type 0
IsOneMore counts delta before after true =
    IsTaken delta (number_among counts before.numbers.entries delta.key) before after
IsOneMore counts delta before after false =
    is_refused_of before.keys before.bytes delta
    (number_among counts before.numbers.entries delta.key)
    ≡ true

-- all are counted, or one of them is refused
abbrev pub AreCounted : Counts → List Delta → ManyPlan → Bool → Type 0
AreCounted counts deltas plan false = are_refused counts deltas ≡ true
AreCounted counts deltas plan true =
    (are_refused counts deltas ≡ false)
    × ((key : Key)
    → count_of (counts_told counts deltas) key ≡ number_among counts plan.numbers.entries key)
    × (plan.bytes ≡ total_cost (counts_told counts deltas))
    × (plan.changes.items ≡ changes_told counts deltas)
