-- How many lines of a kind are told in a second. (Profile.)
use Rattle.std.specs.Prelude.{◌≡◌, ◌≢◌, ℕ, Bool, true, ◌+◌, ◌-◌, ◌^◌, ◌≤◌, nat_le, min, if◌then◌else◌, List, [], ◌∷◌, take, slice_get, IfSome}
use Rattle.std.specs.Option.{option_map_or}
use Rattle.event_log.specs.declared.backlog.Rate.{Rate}

-- where the lines before it were told at these times, in milliseconds and the newest first, a line
-- that comes now is told: the tenth before it was told a second ago, or there is none
abbrev pub has_room : List ℕ → ℕ → Bool
has_room told now = option_map_or (λ tenth. nat_le 1000 (now - tenth)) (slice_get told 9) true

-- the times of the last ten, once one that comes now is told or held back
abbrev pub kept_after : List ℕ → ℕ → List ℕ
kept_after kept now = if has_room kept now then now ∷ take 9 kept else kept

-- and how many were held back
abbrev pub held_after : List ℕ → ℕ → ℕ → ℕ
held_after kept now held = if has_room kept now then held else min (held + 1) (2 ^ 64 - 1)

-- the lines of a kind, before and after one that comes now
pub record IsAdmitted (old : Rate) (now : ℕ) (new : Rate) : Type 0 where
  pub kept : new.told.items ≡ kept_after old.told.items now
  pub held : new.held ≡ held_after old.told.items now old.held

-- whether lines of the kind at this place have room now
abbrev pub HasRoom : List Rate → ℕ → ℕ → Bool → Type 0
HasRoom rates place now is =
    IfSome (slice_get rates place) (λ rate. is ≡ has_room rate.told.items now)

-- a line of the kind at this place: no other kind changes
pub record Admits (old : List Rate) (place now : ℕ) (told : Bool) (new : List Rate) : Type 0 where
  pub room : HasRoom old place now told
  pub own : IfSome (slice_get old place)
      (λ before. IfSome (slice_get new place) (λ after. IsAdmitted before now after))
  pub others : (other : ℕ) → other ≢ place → slice_get new other ≡ slice_get old other

-- ---- what that comes to

-- the lines that are told of those that come at these times; the newest stand first
unfoldable pub told_of : List ℕ → List ℕ
told_of [] = []
told_of (now ∷ before) =
    if has_room (told_of before) now then now ∷ told_of before else told_of before

-- the last ten times, as they are kept from line to line
unfoldable pub kept_of : List ℕ → List ℕ
kept_of [] = []
kept_of (now ∷ before) = kept_after (kept_of before) now

-- each line is told a second, at least, after the tenth before it
abbrev pub AreApart : List ℕ → Type 0
AreApart [] = Unit {0}
AreApart (now ∷ before) =
    IfSome (slice_get before 9) (λ tenth. tenth + 1000 ≤ now) × AreApart before

-- whenever lines come
abbrev pub AtMostTenInASecond : Type 0
AtMostTenInASecond =
    (times : List ℕ) → AreApart (told_of times) × (kept_of times ≡ take 10 (told_of times))
