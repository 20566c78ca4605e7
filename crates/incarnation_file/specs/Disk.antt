-- What a file of a name has, and what may be found there.
use Rattle.std.specs.Prelude.{ℕ, List, Option, None, Some, Vec, ◌≡◌, ◌⊎◌}
use Rattle.std.specs.declared.alloc.Global.{Global}

-- what a name has: the bytes of its file, or no file
abbrev pub Content : Type 0
Content = Option (List ℕ)

abbrev pub content : Option (Vec ℕ Global) → Content
content None = None
content (Some bytes) = Some bytes.items

-- there is a file, and its bytes have P
abbrev pub SomeOf : (List ℕ → Type 0) → Content → Type 0
SomeOf P None = ⊥
SomeOf P (Some bytes) = P bytes

-- the same contents are in both
abbrev pub SameSet : (Content → Type 0) → (Content → Type 0) → Type 0
SameSet old new = (c : Content) → (old c → new c) × (new c → old c)

-- what the next start finds where the life ends now: what is seen if the machine goes on, what may
-- be left if it crashes
abbrev pub IsFound : Content → (Content → Type 0) → Content → Type 0
IsFound seen may_leave c = (c ≡ seen) ⊎ may_leave c
