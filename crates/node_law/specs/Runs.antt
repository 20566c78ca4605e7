-- Runs of one server: what it did since it started, the newest step first.
use Rattle.std.specs.Prelude.{◌≡◌, Bool, List, [], ◌∷◌}
use Rattle.subj.specs.Servers.{ServerIdentity, IsListed}
use Rattle.claim_race.specs.Race.{RaceState}
use Rattle.node_law.specs.Events.{NodeEvent}
use Rattle.node_law.specs.Sound.{SoundNode}
use Rattle.node_law.specs.State.{Node, new_node}
use Rattle.node_law.specs.Steps.{NodeStep}

-- An event that was not refused: the server before it, whether a claim was won, and the race after
-- it. A refused event leaves the server as it is, and isn't listed.
pub record Done : Type 0 where
  pub before : Node
  pub event : NodeEvent
  pub won : Bool
  pub race : RaceState

-- from its start these steps led the server here
abbrev pub Ran : ServerIdentity → List Done → Node → Type 0
Ran server [] a = a ≡ new_node server
Ran server (d ∷ earlier) a =
    NodeStep server d.before d.event d.won d.race a × Ran server earlier d.before

-- a server is sound at each point of each run
abbrev pub RunsStaySound : Type 0
RunsStaySound =
    (server : ServerIdentity) (h : List Done) (a : Node)
    → IsListed server
    → Ran server h a
    → SoundNode server a
