-- A hub as its callers see it.
use Rattle.std.specs.Prelude.{◌≡◌, ◌≢◌, ℕ, ◌≤◌, Bool, true, false, nat_lt, List, [], length, replicate, Option, Some, None, slice_get, slice_set, if◌then◌else◌}
use Rattle.subj.specs.declared.limits.TheConstants.{ROUTE_FRAMES}
use Rattle.subj.specs.Servers.{ServerIdentity, place, is_peer}
use Rattle.interest.specs.Counts.{Counts}
use Rattle.interest.specs.Heard.{Heard, nothing_heard}
use Rattle.route_values.specs.Frames.{Frame}

-- what a hub knows of a peer (profile): the greatest incarnation seen, 0 before the first; of that
-- incarnation the number of the last publication taken, and what was heard of its interest; whether
-- it is up; and the frames that wait for it, the oldest first
pub record Peer : Type 0 where
  pub seen : ℕ
  pub mark : ℕ
  pub heard : Heard
  pub up : Bool
  pub outbox : List Frame

-- a hub (profile): the last turn issued; the last number of a publication, and of a change of
-- interest; whether it drains; of each key the number of its open subscriptions, as the shards have
-- told them; and each server of the cluster by its place, its own place idle
pub record State : Type 0 where
  pub issued : ℕ
  pub published : ℕ
  pub changed : ℕ
  pub draining : Bool
  pub counts : Counts
  pub peers : List Peer

-- a peer of which nothing is known
abbrev pub unknown_peer : Peer
unknown_peer = record { seen = 0; mark = 0; heard = nothing_heard; up = false; outbox = [] }

abbrev pub new_hub : ServerIdentity → State
new_hub server = record {
  issued = 0;
  published = 0;
  changed = 0;
  draining = false;
  counts = [];
  peers = replicate (length server.names) unknown_peer;
}

-- the peer at this place
abbrev pub peer_at : ServerIdentity → State → ℕ → Option Peer
peer_at server hub q = if is_peer server q then slice_get hub.peers q else None

-- the peer of this name
abbrev pub peer_of : ServerIdentity → State → List ℕ → Option Peer
peer_of server hub name = peer_at server hub (place server name)

-- the greatest incarnation seen
abbrev pub seen_of : Option Peer → ℕ
seen_of None = 0
seen_of (Some peer) = peer.seen

-- the incarnation is a greater one than was seen
abbrev pub is_new_life : Peer → ℕ → Bool
is_new_life peer inc = nat_lt peer.seen inc

-- a frame of this incarnation is looked at, or a session has it: a new life begins anew, and is not
-- up; what waits stays
abbrev pub peer_in_life : Peer → ℕ → Peer
peer_in_life peer inc =
    if is_new_life peer inc
    then record { seen = inc; mark = 0; heard = nothing_heard; up = false; outbox = peer.outbox }
    else peer

-- the peer at this place, changed
abbrev pub changed_in : (Peer → Peer) → ℕ → Option Peer → List Peer → List Peer
changed_in change q None peers = peers
changed_in change q (Some peer) peers = slice_set peers q (change peer)

abbrev pub changed_at : (Peer → Peer) → ℕ → List Peer → List Peer
changed_at change q peers = changed_in change q (slice_get peers q) peers

-- ---- what a hub keeps, from its start on

-- the server itself is never up; whoever is up was seen, at an incarnation from 1 on; and an outbox
-- has a limit
pub record IsSoundAt (server : ServerIdentity) (q : ℕ) (peer : Peer) : Type 0 where
  pub other : peer.up ≡ true → q ≢ server.me
  pub seen : peer.up ≡ true → 1 ≤ peer.seen
  pub room : length peer.outbox ≤ ROUTE_FRAMES

-- each server of the cluster has its place among the peers
pub record IsSound (server : ServerIdentity) (hub : State) : Type 0 where
  pub placed : length hub.peers ≡ length server.names
  pub peers : (q : ℕ) (peer : Peer) → slice_get hub.peers q ≡ Some peer → IsSoundAt server q peer
