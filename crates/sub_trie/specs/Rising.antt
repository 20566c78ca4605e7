-- Subscriptions in order of opening, and what a trie holds for them.
use Rattle.std.specs.Prelude.{ℕ, Bool, true, ◌&&◌, nat_eq, nat_lt, List, [], ◌∷◌, if◌then◌else◌}
use Rattle.std.specs.Map.{values_of}
use Rattle.std.specs.HashMap.{HashMap}
use Rattle.std.specs.declared.hash.FoldHasher.{FoldHasher}
use Rattle.std.specs.declared.hash.BuildHasherDefault.{BuildHasherDefault}
use Rattle.sub_table.specs.declared.Subscription.{Subscription}
use Rattle.pattern_trie.specs.Held.{Held}

-- all of them have serials above this one
abbrev pub all_above : ℕ → List Subscription → Bool
all_above n [] = true
all_above n (sub ∷ subs) = nat_lt n sub.serial && all_above n subs

-- the serials rise
abbrev pub is_rising : List Subscription → Bool
is_rising [] = true
is_rising (sub ∷ subs) = all_above sub.serial subs && is_rising subs

-- each serial, held under its pattern
abbrev pub held_of : List Subscription → List (Held ℕ)
held_of [] = []
held_of (sub ∷ subs) = (sub.key.pattern, sub.serial) ∷ held_of subs

-- each is kept under its serial
abbrev pub is_keyed : List (ℕ × Subscription) → Bool
is_keyed [] = true
is_keyed (e ∷ es) = nat_eq e.0 e.1.serial && is_keyed es

-- subscriptions by their serials, as they are kept
abbrev pub BySerial : Type 0
BySerial = HashMap ℕ Subscription (BuildHasherDefault FoldHasher)

-- an entry put where its serial belongs, in place of one that has it
abbrev pub rows_with : ℕ × Subscription → List (ℕ × Subscription) → List (ℕ × Subscription)
rows_with e [] = e ∷ []
rows_with e (f ∷ es) =
    if nat_lt e.0 f.0 then e ∷ f ∷ es else (if nat_eq e.0 f.0 then e ∷ es else f ∷ rows_with e es)

abbrev pub in_order : List (ℕ × Subscription) → List (ℕ × Subscription)
in_order [] = []
in_order (e ∷ es) = rows_with e (in_order es)

-- the entries in order of their serials
abbrev pub rows : BySerial → List (ℕ × Subscription)
rows subs = in_order subs.entries

-- the subscriptions in order of opening
abbrev pub subs_in_order : BySerial → List Subscription
subs_in_order subs = values_of (rows subs)
