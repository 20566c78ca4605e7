-- What becomes of what stands in a table.
use Rattle.std.specs.Prelude.{◌≡◌, ℕ, Option, Some, None, IfSome, IfNone, MatchOption}
use Rattle.slab.specs.Slab.{Slab, get, with_value}

-- What stands at this key is changed so, and nothing else is; where nothing stands there, nothing
-- is changed.
pub record ChangesAt {T : Type 0} (changed : T → T → Type 0) (key : ℕ) (old new : Slab T) :
    Type 0 where
  pub some : IfSome (get old key) (λ before.
      (after : T) × changed before after × (new ≡ with_value old key after))
  pub none : IfNone (get old key) (new ≡ old)

-- One change, and then another one.
abbrev pub Behind : {T : Type 0} → (T → T → Type 0) → (T → T → Type 0) → T → T → Type 0
Behind {T} first second old new = (mid : T) × first old mid × second mid new

-- What stood at a key stands there still, so related to what it was.
abbrev pub Stays : {T : Type 0} → (T → T → Type 0) → Option T → Option T → Type 0
Stays {T} kept old new =
    MatchOption old (new ≡ None) (λ before. (after : T) × (new ≡ Some after) × kept before after)

-- So it is at each key.
abbrev pub EachStays : {T : Type 0} → (T → T → Type 0) → Slab T → Slab T → Type 0
EachStays kept old new = (key : ℕ) → Stays kept (get old key) (get new key)
