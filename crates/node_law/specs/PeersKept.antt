-- Peers and sessions: a peer is up at an incarnation just where a kept session has it, and that is
-- the greatest seen of it.
use Rattle.std.specs.Prelude.{◌≡◌, ◌⊎◌, ◌↔◌, ℕ, ◌≤◌, true, List, [], ◌∷◌, ◌++◌, slice_get, Some}
use Rattle.list_laws.specs.Lists.{In, Each, Pairs}
use Rattle.subj.specs.Servers.{ServerIdentity, IsListed, place}
use Rattle.hub_core.specs.State.{Peer}
use Rattle.route_session.specs.Best.{Offer}
use Rattle.route_session.specs.State.{Session, is_of_peer}
use Rattle.node_law.specs.State.{Node}
use Rattle.node_law.specs.Events.{NodeEvent, Own, Receive, OnInfo, OnConnect}
use Rattle.node_law.specs.Runs.{Done, Ran}

-- the peer at this place is up, and this incarnation is the one seen
pub record IsUpAt (a : Node) (q inc : ℕ) : Type 0 where
  pub peer : Peer
  pub at : slice_get a.hub.peers q ≡ Some peer
  pub up : peer.up ≡ true
  pub seen : peer.seen ≡ inc

-- a kept session with the peer at this place has this incarnation
pub record KeptAt (standing : List Session) (q inc : ℕ) : Type 0 where
  pub session : Session
  pub stands : In session standing
  pub offer : Offer
  pub kept : session.kept ≡ Some offer
  pub peer : offer.peer ≡ q
  pub inc_is : offer.inc ≡ inc

-- no two sessions are kept for one peer
abbrev pub KeptOnce : List Session → Type 0
KeptOnce standing =
    Pairs (λ x y. (q : ℕ) → is_of_peer q x.kept ≡ true → is_of_peer q y.kept ≡ true → ⊥) standing

-- ---- the incarnations seen: of a frame, an INFO or a CONNECT that was not refused, with the place
-- of its sender

abbrev pub seen_in : ServerIdentity → NodeEvent → List (ℕ × ℕ)
seen_in server (Own event) = []
seen_in server (Receive frame) = (place server frame.from, frame.inc) ∷ []
seen_in server (OnInfo session info) = (place server info.server_name, info.inc) ∷ []
seen_in server (OnConnect session connect) = (place server connect.server_name, connect.inc) ∷ []

-- those of a run, the newest first
abbrev pub seen_of_run : ServerIdentity → List Done → List (ℕ × ℕ)
seen_of_run server [] = []
seen_of_run server (d ∷ earlier) = seen_in server d.event ++ seen_of_run server earlier

-- none of those seen of the peer is greater, and it is one of them, or 0 where there is none
pub record IsGreatest (q inc : ℕ) (seen : List (ℕ × ℕ)) : Type 0 where
  pub all : Each (λ x. x.0 ≡ q → x.1 ≤ inc) seen
  pub one : (inc ≡ 0) ⊎ In (q, inc) seen

pub record PeersAreKept (a : Node) (seen : List (ℕ × ℕ)) : Type 0 where
  pub up : (q inc : ℕ) → IsUpAt a q inc ↔ KeptAt a.sessions.standing q inc
  pub once : KeptOnce a.sessions.standing
  pub greatest : (q : ℕ) (peer : Peer)
      → slice_get a.hub.peers q ≡ Some peer
      → IsGreatest q peer.seen seen

-- of every run of a server from its start
abbrev pub KeepsPeers : Type 0
KeepsPeers =
    (server : ServerIdentity) (h : List Done) (a : Node)
    → IsListed server
    → Ran server h a
    → PeersAreKept a (seen_of_run server h)
