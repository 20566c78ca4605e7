-- Serials under keys.
use Rattle.std.specs.Prelude.{◌≡◌, ℕ, Bool, not, ◌&&◌, nat_eq, List, [], ◌∷◌, map, filter, Option, Some, None}
use Rattle.std.specs.Str.{bytes_eq}
use Rattle.std.specs.HashMap.{HashMap, get}
use Rattle.std.specs.declared.hash.FoldHasher.{FoldHasher}
use Rattle.std.specs.declared.hash.BuildHasherDefault.{BuildHasherDefault}
use Rattle.std.specs.declared.vec.Vec.{Vec}
use Rattle.std.specs.declared.alloc.Global.{Global}
use Rattle.arrayvec.specs.ArrayVec.{ArrayVec as Items}
use Rattle.sub_table.specs.declared.Subscription.{Subscription}
use Rattle.sub_table.specs.Subscriptions.{is_called, serial_of, without_serial}

abbrev pub list_of : Option (Vec ℕ Global) → List ℕ
list_of None = []
list_of (Some list) = list.items

-- what is under the key, keys being compared by eq
abbrev pub list_at : {K : Type 0} → (K → K → Bool)
    → HashMap K (Vec ℕ Global) (BuildHasherDefault FoldHasher) → K → List ℕ
list_at eq groups key = list_of (get eq groups key)

abbrev pub first_of : List ℕ → Option ℕ
first_of [] = None
first_of (x ∷ xs) = Some x

abbrev pub is_other : ℕ → ℕ → Bool
is_other serial held = not (nat_eq held serial)

-- whether two keys of a connection and an id are equal
abbrev pub called_eq : ℕ × Items ℕ → ℕ × Items ℕ → Bool
called_eq a b = nat_eq a.0 b.0 && bytes_eq a.1.items b.1.items

-- the serials of what a connection calls by an id, in order of opening
abbrev pub serials_called : ℕ × Items ℕ → List Subscription → List ℕ
serials_called key subs = map serial_of (filter (is_called key.0 key.1.items) subs)

-- the serials under each key of a connection and an id are those of what it calls so
abbrev pub AreCalled : HashMap (ℕ × Items ℕ) (Vec ℕ Global) (BuildHasherDefault FoldHasher)
    → List Subscription
    → Type 0
AreCalled by_sid subs = (key : ℕ × Items ℕ) → list_at called_eq by_sid key ≡ serials_called key subs

-- the list without those of these serials
abbrev pub without_each : List ℕ → List Subscription → List Subscription
without_each [] subs = subs
without_each (serial ∷ serials) subs = without_each serials (without_serial serial subs)
