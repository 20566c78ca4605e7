-- The hub of a server over its runs.
use Rattle.std.specs.Prelude.{◌≡◌, ℕ, ◌≤◌, true, List}
use Rattle.list_laws.specs.Lists.{Each}
use Rattle.subj.specs.Servers.{ServerIdentity, IsListed, is_peer}
use Rattle.hub_core.specs.State.{IsSound}
use Rattle.node_law.specs.State.{Node}
use Rattle.node_law.specs.Events.{NodeEvent, Own, Receive, OnInfo, OnConnect}
use Rattle.node_law.specs.PeersKept.{KeptAt}
use Rattle.node_law.specs.Runs.{Done, Ran}

-- an INFO and a CONNECT tell an incarnation from 1 on, as each one that can be spelt does (profile)
abbrev pub IsSpelt : NodeEvent → Type 0
IsSpelt (Own event) = Unit {0}
IsSpelt (Receive frame) = Unit {0}
IsSpelt (OnInfo session info) = 1 ≤ info.inc
IsSpelt (OnConnect session connect) = 1 ≤ connect.inc

-- The hub is sound: its outboxes keep within their limit, whoever is up was seen, and the server
-- itself is never up. And each kept session is with another server of the cluster.
pub record HubIsSound (server : ServerIdentity) (a : Node) : Type 0 where
  pub sound : IsSound server a.hub
  pub others : (q inc : ℕ) → KeptAt a.sessions.standing q inc → is_peer server q ≡ true

-- of every run of a server from its start
abbrev pub HubsStaySound : Type 0
HubsStaySound =
    (server : ServerIdentity) (h : List Done) (a : Node) → IsListed server
    → Each (λ d. IsSpelt d.event) h → Ran server h a → HubIsSound server a
