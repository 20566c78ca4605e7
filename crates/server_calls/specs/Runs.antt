-- Publications that a connection lends, published by a hub.
use Rattle.std.specs.Prelude.{◌≡◌, ℕ, List, [], ◌∷◌, length}
use Rattle.subj.specs.declared.messages.Pub.{Pub}
use Rattle.publication_runs.specs.Lent.{LentState, Gives}
use Rattle.client_calls.specs.declared.outcome.Outcome.{Outcome}
use Rattle.client_calls.specs.declared.outcome.Outcome.TheVariants.{Done}

-- each was done, in order, whatever its word
abbrev pub PublishesEach : {S : Type 0} → (S → ℕ → Pub → ℕ → Outcome → S → Type 0) → ℕ → List Pub
    → S → S → Type 0
PublishesEach published conn [] before after = after ≡ before
PublishesEach {S} published conn (publication ∷ others) before after =
    (next : S)
    × ((word : ℕ) → published before conn publication word Done next)
    × PublishesEach published conn others next after

-- so many were given, each was published, and nothing else was done
pub record HasPublishedRun {S : Type 0} (published : S → ℕ → Pub → ℕ → Outcome → S → Type 0)
    (conn count : ℕ) (old new : LentState) (before after : S) : Type 0 where
  pub publications : List Pub
  pub counted : length publications ≡ count
  pub given : Gives publications old new
  pub each : PublishesEach published conn publications before after
