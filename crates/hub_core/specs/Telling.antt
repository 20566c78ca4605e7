-- Collect and Drain. The deltas of a shard are counted, and what they change is told to the peers;
-- a server that drains counts on, tells that it has no interest any more, and makes no further
-- change (NATS documentation, "Cluster Protocol": `RS+` and `RS-`; numbers, order and cuts:
-- profile).
use Rattle.std.specs.Prelude.{ℕ, suc, ◌+◌, Bool, not, ◌&&◌, nat_lt, nat_le, List, [], ◌∷◌, ◌++◌, length, map, true, Option, Some, None, if◌then◌else◌}
use Rattle.subj.specs.declared.limits.TheConstants.{MAX_COUNTER, ROUTE_FRAMES}
use Rattle.subj.specs.Servers.{ServerIdentity, name_of, own_name}
use Rattle.interest.specs.declared.changes.Change.{Change}
use Rattle.interest.specs.declared.changes.Change.TheVariants.{Up, Gone, Clear}
use Rattle.subj.specs.declared.keys.Delta.{Delta}
use Rattle.interest.specs.Told.{counts_told, changes_told, are_refused}
use Rattle.route_values.specs.declared.bodies.Body.{Body}
use Rattle.route_values.specs.declared.bodies.Body.TheVariants.{Plus, Minus, Snapshot}
use Rattle.route_values.specs.Frames.{Frame}
use Rattle.hub_core.specs.declared.faults.HubFault.{HubFault}
use Rattle.hub_core.specs.declared.faults.HubFault.TheVariants.{Draining, Spent, BadInterest}
use Rattle.hub_core.specs.Publishing.{with_frames}
use Rattle.hub_core.specs.State.{State, Peer}

abbrev pub changes_of : State → List Delta → List Change
changes_of hub deltas = if hub.draining then [] else changes_told hub.counts deltas

abbrev pub count_of_changes : State → List Delta → ℕ
count_of_changes hub deltas = length (changes_of hub deltas)

-- ---- refusals: 69, 62

abbrev pub collect_refusal : State → List Delta → Option HubFault
collect_refusal hub deltas =
    if are_refused hub.counts deltas then Some BadInterest
    else (if nat_lt MAX_COUNTER (hub.changed + count_of_changes hub deltas) then Some Spent
    else None)

-- ---- who is told

-- there is room for this many frames
abbrev pub has_room_for : ℕ → Peer → Bool
has_room_for count peer = nat_le (length peer.outbox + count) ROUTE_FRAMES

abbrev pub is_told : ℕ → Peer → Bool
is_told count peer = peer.up && has_room_for count peer

-- a peer that is up without room for all of them gets none, and is cut
abbrev pub is_slow : ℕ → Peer → Bool
is_slow count peer = peer.up && not (has_room_for count peer)

abbrev pub slow_from : ℕ → ℕ → List Peer → List ℕ
slow_from count q [] = []
slow_from count q (peer ∷ peers) =
    (if is_slow count peer then q ∷ [] else []) ++ slow_from count (suc q) peers

abbrev pub slow_peers : State → List Delta → List ℕ
slow_peers hub deltas = slow_from (count_of_changes hub deltas) 0 hub.peers

abbrev pub without_slow : ℕ → Peer → Peer
without_slow count peer = record peer { up = is_told count peer }

-- ---- the frames, in order of change and then of peer

abbrev pub body_of : Change → Body
body_of (Up weighted) = Plus weighted
body_of (Gone key) = Minus key
body_of Clear = Snapshot []

-- the change of this number, to each peer that is told all of them
abbrev pub frames_of_change : ServerIdentity → ℕ → ℕ → Change → ℕ → List Peer → List Frame
frames_of_change server count number change q [] = []
frames_of_change server count number change q (peer ∷ peers) =
    (if is_told count peer
    then record {
      from = own_name server;
      inc = server.inc;
      to = name_of server q;
      to_inc = peer.seen;
      number = number;
      body = body_of change;
    } ∷ []
    else [])
    ++ frames_of_change server count number change (suc q) peers

-- the changes behind the one of this number
abbrev pub frames_behind : ServerIdentity → ℕ → ℕ → List Change → List Peer → List Frame
frames_behind server count number [] peers = []
frames_behind server count number (change ∷ changes) peers =
    frames_of_change server count (number + 1) change 0 peers
    ++ frames_behind server count (number + 1) changes peers

abbrev pub collect_frames : ServerIdentity → State → List Delta → List Frame
collect_frames server hub deltas =
    frames_behind server (count_of_changes hub deltas) hub.changed (changes_of hub deltas) hub.peers

-- ---- after: each peer is judged alone, by its outbox as it was

abbrev pub after_collect : ServerIdentity → State → List Delta → State
after_collect server hub deltas = record hub {
  changed = hub.changed + count_of_changes hub deltas;
  counts = counts_told hub.counts deltas;
  peers =
      with_frames server (collect_frames server hub deltas) 0
      (map (without_slow (count_of_changes hub deltas)) hub.peers);
}

-- ---- drain: one change, which clears; refusals: 59, 62

abbrev pub clearing : List Change
clearing = Clear ∷ []

abbrev pub drain_refusal : State → Option HubFault
drain_refusal hub =
    if hub.draining then Some Draining
    else (if nat_le MAX_COUNTER hub.changed then Some Spent else None)

abbrev pub peers_too_slow : State → List ℕ
peers_too_slow hub = slow_from 1 0 hub.peers

-- a snapshot without keys, to each peer that is up with room for it
abbrev pub drain_frames : ServerIdentity → State → List Frame
drain_frames server hub = frames_behind server 1 hub.changed clearing hub.peers

abbrev pub after_drain : ServerIdentity → State → State
after_drain server hub = record hub {
  changed = hub.changed + 1;
  draining = true;
  peers = with_frames server (drain_frames server hub) 0 (map (without_slow 1) hub.peers);
}
