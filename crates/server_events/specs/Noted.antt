-- What is kept of events until they are told. (Profile.)
use Rattle.std.specs.Prelude.{◌≡◌, ◌⊎◌, ℕ, ◌+◌, ◌-◌, ◌^◌, min, [], ◌∷◌, ◌++◌}
use Rattle.server_events.specs.declared.event.Event.{Event}
use Rattle.server_events.specs.declared.noted.Events.{Events}

-- one more, up to the greatest number
abbrev pub counted : ℕ → ℕ
counted n = min (n + 1) (2 ^ 64 - 1)

-- the event stands behind the others, or one more was missed
abbrev pub IsNoted : Events → Event → Events → Type 0
IsNoted old event new =
    ((new.noted.items ≡ old.noted.items ++ event ∷ []) × (new.missed ≡ old.missed))
    ⊎ ((new.noted.items ≡ old.noted.items) × (new.missed ≡ counted old.missed))
