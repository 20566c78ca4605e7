-- Parts of a hub's calls: whom a frame is for, and what is heard of a peer's interest.
use Rattle.std.specs.Prelude.{◌≡◌, ℕ, ◌+◌, ◌<◌, ◌≤◌, List, [], ◌∷◌, ◌++◌, length, filter, slice_get, map, All, true, not, nat_eq, Option, Some, None, if◌then◌else◌}
use Rattle.std.specs.Option.{option_map}
use Rattle.std.specs.Str.{bytes_eq}
use Rattle.subj.specs.declared.limits.TheConstants.{ROUTE_FRAMES}
use Rattle.subj.specs.Servers.{ServerIdentity, own_name, name_of, place}
use Rattle.subj.specs.declared.jobs.Job.{Job}
use Rattle.interest.specs.declared.changes.Change.{Change}
use Rattle.interest.specs.declared.changes.Change.TheVariants.{Up, Gone}
use Rattle.interest.specs.Heard as interest
use Rattle.interest.specs.Heard.{Changed, Whole, news_fault, heard_after}
use Rattle.route_values.specs.declared.bodies.Body.{Body}
use Rattle.route_values.specs.declared.bodies.Body.TheVariants.{Plus, Minus, Snapshot, Msg}
use Rattle.route_values.specs.Frames.{Frame}
use Rattle.hub_core.specs.declared.faults.HubFault.{HubFault}
use Rattle.hub_core.specs.declared.faults.HubFault.TheVariants.{NotMe, OtherMe}
use Rattle.hub_core.specs.Faults.{fault_of_interest}
use Rattle.hub_core.specs.State.{State, Peer}
use Rattle.hub_core.specs.Publishing.{Publication, is_to, frames_of, publish_refusal, with_frames}
use Rattle.hub_core.specs.declared.answers.Received.{Received}
use Rattle.hub_core.specs.declared.answers.Received.TheVariants.{Routed, Heard}
use Rattle.hub_core.specs.Events as answer
use Rattle.hub_core.specs.Events.{Answer}
use Rattle.interest.specs.Counts.{Counts}
use Rattle.interest.specs.declared.recounts.Recount.{Recount}
use Rattle.interest.specs.Recounts.{IsRecountOf}
use Rattle.subj.specs.declared.keys.Delta.{Delta}
use Rattle.hub_core.specs.Telling.{body_of, without_slow, count_of_changes, changes_of, collect_refusal, collect_frames, slow_peers, drain_frames, peers_too_slow}
use Rattle.hub_core.specs.Receiving.{receive_refusal, routed_job}
use Rattle.hub_core.specs.Hubs.{Hub}

-- the frame is for another server, or for another life of this one
abbrev pub address_fault : ServerIdentity → Frame → Option HubFault
address_fault server frame =
    if not (bytes_eq frame.to (own_name server)) then Some NotMe
    else (if not (nat_eq frame.to_inc server.inc) then Some OtherMe else None)

-- news that are not heard; a message is none
abbrev pub interest_fault : interest.Heard → ℕ → Body → Option HubFault
interest_fault heard number (Plus weighted) =
    option_map fault_of_interest (news_fault heard (Changed number (Up weighted)))
interest_fault heard number (Minus key) =
    option_map fault_of_interest (news_fault heard (Changed number (Gone key)))
interest_fault heard number (Snapshot keys) =
    option_map fault_of_interest (news_fault heard (Whole number keys))
interest_fault heard number (Msg content queues) = None

abbrev pub heard_by : interest.Heard → ℕ → Body → interest.Heard
heard_by heard number (Plus weighted) = heard_after heard (Changed number (Up weighted))
heard_by heard number (Minus key) = heard_after heard (Changed number (Gone key))
heard_by heard number (Snapshot keys) = heard_after heard (Whole number keys)
heard_by heard number (Msg content queues) = heard

-- the job of a message; news have none
abbrev pub job_of : State → Frame → Body → Option Job
job_of hub frame (Plus weighted) = None
job_of hub frame (Minus key) = None
job_of hub frame (Snapshot keys) = None
job_of hub frame (Msg content queues) = Some (routed_job hub frame content queues)

-- the frame is not refused, by what some list of finished turns tells
pub record IsTaken (server : ServerIdentity) (hub : State) (frame : Frame) : Type 0 where
  pub finished : List ℕ
  pub taken : receive_refusal server hub finished frame ≡ None

-- ---- answers of the calls

abbrev pub answer_of : Received → Answer
answer_of (Routed job) = answer.Routed job
answer_of (Heard mark) = answer.Heard mark

-- ---- frames that are put

abbrev pub with_frame : Frame → Peer → Peer
with_frame frame peer = record peer { outbox = peer.outbox ++ frame ∷ [] }

-- each is to a server of the cluster, and each outbox has room for those that are to its peer
pub record HasRoomFor (server : ServerIdentity) (frames : List Frame) (peers : List Peer) :
    Type 0 where
  pub listed : All (λ frame. place server frame.to < length server.names) frames
  pub room : (q : ℕ) (peer : Peer)
      → slice_get peers q ≡ Some peer
      → length peer.outbox + length (filter (is_to server q) frames) ≤ ROUTE_FRAMES

-- ---- a publish

-- a plan of a publication that is not refused, by what some list of finished turns tells
pub record IsPlanned (server : ServerIdentity) (hub : State) (frames : List Frame) : Type 0 where
  pub publication : Publication
  pub finished : List ℕ
  pub taken : publish_refusal server hub publication finished ≡ None
  pub frames_are : frames ≡ frames_of server hub publication

-- these frames are put, and the numbers count up
abbrev pub after_frames : ServerIdentity → State → List Frame → State
after_frames server hub frames = record hub {
  issued = hub.issued + 1;
  published = hub.published + 1;
  peers = with_frames server frames 0 hub.peers;
}

-- ---- a collect

-- who is up was seen
pub record WereSeen (peers : List Peer) : Type 0 where
  pub seen : (q : ℕ) (peer : Peer) → slice_get peers q ≡ Some peer → peer.up ≡ true → 1 ≤ peer.seen

-- the change of this number, to the peer at place q
abbrev pub change_to : ServerIdentity → ℕ → Change → ℕ → Peer → Frame
change_to server number change q peer = record {
  from = own_name server;
  inc = server.inc;
  to = name_of server q;
  to_inc = peer.seen;
  number = number;
  body = body_of change;
}

-- so many changes and these frames are those of deltas that are not refused
pub record AreCounted (server : ServerIdentity) (hub : State) (deltas : List Delta) (count : ℕ)
    (frames : List Frame) : Type 0 where
  pub taken : collect_refusal hub deltas ≡ None
  pub count_is : count ≡ count_of_changes hub deltas
  pub frames_are : frames ≡ collect_frames server hub deltas

-- so many changes are told, by these frames
abbrev pub after_changes : ServerIdentity → State → Counts → ℕ → List Frame → State
after_changes server hub counts count frames = record hub {
  changed = hub.changed + count;
  counts = counts;
  peers = with_frames server frames 0 (map (without_slow count) hub.peers);
}

-- ---- a drain

-- what a drain is planned as: the frames, and the peers that are cut
pub record IsDrainOf (hub : Hub) (frames : List Frame) (cut : List ℕ) : Type 0 where
  pub frames_are : frames ≡ drain_frames hub.server hub.state
  pub cut_are : cut ≡ peers_too_slow hub.state

-- what a collect of these deltas is planned as: what becomes of the counts, the changes, the
-- frames, and the peers that are cut
pub record IsTellingOf (hub : Hub) (deltas : List Delta) (recount : Recount) (changes : List Change)
    (frames : List Frame) (cut : List ℕ) : Type 0 where
  pub recount_is : IsRecountOf hub.state.counts deltas recount
  pub changes_are : changes ≡ changes_of hub.state deltas
  pub frames_are : frames ≡ collect_frames hub.server hub.state deltas
  pub cut_are : cut ≡ slow_peers hub.state deltas
