-- What waits for a connection after a step of its server: what the event keeps of what waited, and
-- behind it what the event puts.
use Rattle.std.specs.Prelude.{◌≡◌, ℕ, Bool, nat_eq, List, ◌++◌, Option, Some, None, if◌then◌else◌}
use Rattle.claim_race.specs.Race.{RaceState}
use Rattle.outbox.specs.Views.{Written}
use Rattle.subj.specs.Servers.{ServerIdentity}
use Rattle.shard_core.specs.Puts.{kept_of}
use Rattle.node_law.specs.AsLaw.{Part, part_of, waits_at}
use Rattle.node_law.specs.Events.{NodeEvent}
use Rattle.node_law.specs.State.{Node}
use Rattle.node_law.specs.Steps.{NodeStep}
use Rattle.world_law.specs.Changes.{entries_at}

-- an event at the shard of this place keeps what its client did not take, and nothing of a
-- connection that goes; all else keeps all
abbrev pub kept_at : Option Part → ℕ → ℕ → List Written → List Written
kept_at None place conn entries = entries
kept_at (Some part) place conn entries =
    if nat_eq part.place place then kept_of part.event conn entries else entries

abbrev pub WaitsAreKept : Type 0
WaitsAreKept =
    (server : ServerIdentity) (a : Node) (e : NodeEvent) (won : Bool) (race : RaceState) (b : Node)
    (place conn : ℕ)
    → NodeStep server a e won race b
    → waits_at b place conn
    ≡ kept_at (part_of server a e won) place conn (waits_at a place conn)
    ++ entries_at (part_of server a e won) place conn
