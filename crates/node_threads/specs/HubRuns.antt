-- Publications that a hub issues one after the other, each of which owes a job alone.
use Rattle.std.specs.Prelude.{◌≡◌, ℕ, List, [], ◌∷◌, length, Ok}
use Rattle.subj.specs.declared.messages.Pub.{Pub}
use Rattle.publication_runs.specs.Lent.{LentState, Gives}
use Rattle.hub_core.specs.Chosen.{publication_by}
use Rattle.node_parts.specs.declared.told.Issued.{Issued}
use Rattle.node_threads.specs.AtHub.{AtHub, Publishes}

-- each was issued, in order, whatever its word
abbrev pub IssuesEach : ℕ → ℕ → List Pub → AtHub → AtHub → Type 0
IssuesEach shards conn [] old new = new ≡ old
IssuesEach shards conn (publication ∷ others) old new =
    (next : AtHub)
    × (told : Issued)
    × ((word : ℕ) → Publishes shards old (publication_by conn publication word) (Ok told) next)
    × IssuesEach shards conn others next new

-- so many were given, each was issued, and nothing else was done
pub record IssuesRun (shards conn count : ℕ) (from to : LentState) (old new : AtHub) : Type 0 where
  pub publications : List Pub
  pub counted : length publications ≡ count
  pub given : Gives publications from to
  pub each : IssuesEach shards conn publications old new
