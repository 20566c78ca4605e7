-- What becomes of a line that is to be told. (Profile.)
use Rattle.std.specs.Prelude.{◌≡◌, ◌⊎◌, ◌≤◌, ℕ, ◌+◌, ◌-◌, ◌^◌, true, false, min, [], ◌∷◌, ◌++◌}
use Rattle.std.specs.Vec.{vec_capacity, vec_len}
use Rattle.server_events.specs.Kinds.{kind_of, place_of}
use Rattle.event_log.specs.declared.backlog.TheConstants.{LINES}
use Rattle.event_log.specs.declared.backlog.Backlog.{Backlog}
use Rattle.event_log.specs.declared.backlog.Fate.{Fate}
use Rattle.event_log.specs.declared.backlog.Fate.TheVariants.{Told, HeldBack, Lost}
use Rattle.event_log.specs.declared.backlog.Line.{Line}
use Rattle.event_log.specs.Rates.{Admits}

-- so many more, up to the greatest number
abbrev pub counted : ℕ → ℕ → ℕ
counted n more = min (n + more) (2 ^ 64 - 1)

-- a line that is told stands behind the others; one for which its kind has no room is counted by
-- its kind, and one for which the queue has no room, or no memory for another, among the lost ones.
-- Where the queue has room, its kind has had its turn
abbrev pub IsFateOf : Backlog → Line → ℕ → Fate → Backlog → Type 0
IsFateOf old line now Told new =
    (new.lines.items ≡ old.lines.items ++ line ∷ [])
    × (new.lost ≡ old.lost)
    × Admits old.rates.all (place_of (kind_of line.event)) now true new.rates.all
IsFateOf old line now HeldBack new = (new.lines.items ≡ old.lines.items) × (new.lost ≡ old.lost)
    × Admits old.rates.all (place_of (kind_of line.event)) now false new.rates.all
IsFateOf old line now Lost new =
    (new.lines.items ≡ old.lines.items)
    × (new.lost ≡ counted old.lost 1)
    × (((LINES ≤ vec_len old.lines) × (new.rates ≡ old.rates))
    ⊎ ((vec_capacity old.lines ≤ vec_len old.lines)
    × Admits old.rates.all (place_of (kind_of line.event)) now true new.rates.all))
