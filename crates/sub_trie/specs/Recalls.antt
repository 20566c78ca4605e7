-- What is kept in mind of recent subjects.
use Rattle.std.specs.Prelude.{◌≡◌, ℕ, List, [], ◌∷◌, ◌++◌, map, filter, All}
use Rattle.std.specs.List.{find}
use Rattle.std.specs.Option.{option_to_list}
use Rattle.sub_table.specs.declared.Subscription.{Subscription}
use Rattle.sub_table.specs.Subscriptions.{gets, has_serial, serial_of}
use Rattle.sub_trie.specs.declared.slot.Slot.{Slot}

-- the serials of what the subject matches, in order of opening
abbrev pub serials_for : List ℕ → List Subscription → List ℕ
serials_for subject subs = map serial_of (filter (gets subject) subs)

-- what was written in this generation is what its subject matches
abbrev pub IsRight : List Subscription → ℕ → Slot → Type 0
IsRight subs generation slot =
    slot.generation ≡ generation → slot.serials.items ≡ serials_for slot.subject.items subs

-- what the slots have of this generation is what matches
abbrev pub AreRight : List Subscription → ℕ → List Slot → Type 0
AreRight subs generation slots = All (IsRight subs generation) slots

-- the subscriptions of these serials
abbrev pub subs_of_serials : List Subscription → List ℕ → List Subscription
subs_of_serials subs [] = []
subs_of_serials subs (n ∷ ns) = option_to_list (find (has_serial n) subs) ++ subs_of_serials subs ns
