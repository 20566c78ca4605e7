-- Peers come up and are cut, and frames are taken from their outboxes (profile).
use Rattle.std.specs.Prelude.{ℕ, true, false, List, [], ◌∷◌, take, drop, Option, Some, None, slice_get, if◌then◌else◌}
use Rattle.subj.specs.Servers.{ServerIdentity, name_of, own_name, is_peer}
use Rattle.interest.specs.Views.{View, told_view}
use Rattle.route_values.specs.declared.bodies.Body.TheVariants.{Snapshot}
use Rattle.route_values.specs.Frames.{Frame}
use Rattle.hub_core.specs.declared.faults.HubFault.{HubFault}
use Rattle.hub_core.specs.declared.faults.HubFault.TheVariants.{NotInCluster}
use Rattle.hub_core.specs.State.{State, Peer, peer_in_life, changed_at}

-- what peers are told of the counts: all, and of a server that drains nothing
abbrev pub told_interest : State → View
told_interest hub = if hub.draining then [] else told_view hub.counts

-- all interest that is told, at the number of the last change, to an incarnation of the peer at
-- place q
abbrev pub snapshot_to : ServerIdentity → State → ℕ → ℕ → Frame
snapshot_to server hub q inc = record {
  from = own_name server;
  inc = server.inc;
  to = name_of server q;
  to_inc = inc;
  number = hub.changed;
  body = Snapshot (told_interest hub);
}

-- a session with an incarnation of the peer is kept: it is up, and a snapshot is all that waits
abbrev pub up : ServerIdentity → State → ℕ → ℕ → State
up server hub q inc = record hub {
  peers =
      changed_at (λ peer. record (peer_in_life peer inc) {
        up = true;
        outbox = snapshot_to server hub q inc ∷ [];
      })
      q hub.peers;
}

-- the kept session has ended: marks, view and outbox stay
abbrev pub cut : State → ℕ → State
cut hub q = record hub { peers = changed_at (λ peer. record peer { up = false }) q hub.peers }

-- ---- take: 65 where the place is of no peer

abbrev pub take_refusal : ServerIdentity → ℕ → Option HubFault
take_refusal server q = if is_peer server q then None else Some NotInCluster

abbrev pub outbox_of : Option Peer → List Frame
outbox_of None = []
outbox_of (Some peer) = peer.outbox

abbrev pub first_frames : State → ℕ → ℕ → List Frame
first_frames hub q count = take count (outbox_of (slice_get hub.peers q))

abbrev pub after_take : State → ℕ → ℕ → State
after_take hub q count = record hub {
  peers = changed_at (λ peer. record peer { outbox = drop count peer.outbox }) q hub.peers;
}
