-- A server's step: the hub's part, the sessions' part, a shard's part and the race, put together.
use Rattle.std.specs.Prelude.{◌≡◌, ℕ, ◌+◌, ◌-◌, ◌%◌, Bool, false, nat_eq, nat_lt, List, [], ◌∷◌, ◌++◌, map, set, slice_get, Option, Some, None, if◌then◌else◌}
use Rattle.std.specs.Option.{option_map}
use Rattle.subj.specs.Servers.{ServerIdentity, place}
use Rattle.subj.specs.declared.jobs.Job.{Job}
use Rattle.sub_table.specs.declared.Subscription.{Subscription}
use Rattle.subj.specs.declared.keys.Delta.{Delta}
use Rattle.claim_race.specs.Race.{RaceState, IsIssued, IsClaimed, IsFinished}
use Rattle.route_values.specs.Frames.{Frame}
use Rattle.route_values.specs.declared.bodies.Body.{Body}
use Rattle.route_values.specs.declared.bodies.Body.TheVariants.{Plus, Minus, Snapshot, Msg}
use Rattle.route_values.specs.declared.frames.RouteFrame.{RouteFrame}
use Rattle.route_values.specs.declared.frames.RouteFrame.TheVariants as route
use Rattle.shard_core.specs.ShardEvents as of_shard
use Rattle.shard_core.specs.ShardSteps.{shard_refusal, shard_after}
use Rattle.shard_core.specs.Owed.{candidate_of}
use Rattle.shard_core.specs.Lines.{first_of, waiting_after}
use Rattle.shard_core.specs.declared.faults.ShardFault.TheVariants.{NoConn, JobInHand, NoJob}
use Rattle.hub_core.specs.State as hub
use Rattle.hub_core.specs.State.{peer_of, seen_of}
use Rattle.hub_core.specs.Publishing.{publish_refusal, after_publish, own_job, frames_of}
use Rattle.hub_core.specs.Receiving.{receive_refusal, after_receive, routed_job}
use Rattle.hub_core.specs.Telling.{collect_refusal, after_collect, collect_frames, slow_peers, drain_refusal, after_drain, drain_frames, peers_too_slow}
use Rattle.hub_core.specs.Peers.{up, cut, snapshot_to, take_refusal, after_take}
use Rattle.route_session.specs.State as sessions
use Rattle.route_session.specs.State.{session_at, peer_of_session}
use Rattle.route_session.specs.Steps.{dial_refusal, room_refusal, info_refusal, connect_refusal, cut_refusal, after_dial, after_accept, without_peer, after_completion, after_info, connect_offer, after_cut, without_peers, own_info, own_connect, serial_of}
use Rattle.node_law.specs.declared.faults.NodeFault.{NodeFault}
use Rattle.node_law.specs.declared.faults.NodeFault.TheVariants.{NoShard, Shard, Hub, Session}
use Rattle.node_law.specs.State.{ShardWithJobs, Node, finished_turns}
use Rattle.node_law.specs.Events.{ConnEvent, Subscribe, Unsubscribe, Reply, Shut, SetHeaders, Detach, Take, ShardWork, Attach, Begin, Claim, End, DropJob, DrainShard, OwnEvent, OfConn, AtShard, Publish, Collect, Drain, Dial, Accept, CutSession, TakeFrames, NodeEvent, Own, Receive, OnInfo, OnConnect}

-- ---- which line an event is for, and what it is there

-- a connection's number tells its shard: that of shard s are s, s + K, s + 2K, .. (profile)
abbrev pub conn_place : ServerIdentity → ℕ → ℕ
conn_place server conn = (conn - 1) % server.shards

abbrev pub conn_line : ServerIdentity → Node → ℕ → Option ShardWithJobs
conn_line server a conn = if nat_eq conn 0 then None else slice_get a.lines (conn_place server conn)

abbrev pub shard_line : Node → ℕ → Option ShardWithJobs
shard_line a shard = if nat_eq shard 0 then None else slice_get a.lines (shard - 1)

abbrev pub conn_event : ℕ → ConnEvent → of_shard.Event
conn_event conn (Subscribe key sid) = of_shard.Subscribe conn key sid
conn_event conn (Unsubscribe sid max) = of_shard.Unsubscribe conn sid max
conn_event conn (Reply frame) = of_shard.Reply conn frame
conn_event conn (Shut text) = of_shard.Shut conn text
conn_event conn Detach = of_shard.Detach conn
conn_event conn (SetHeaders on) = of_shard.SetHeaders conn on
conn_event conn (Take count) = of_shard.Take conn count

-- a begin takes the first job that waits
abbrev pub begin_of : Option Job → Option of_shard.Event
begin_of None = None
begin_of (Some job) = Some (of_shard.Begin job)

-- a drop wants a job: the one in hand, or else the first that waits
abbrev pub drop_of : Option Job → Option Job → Option of_shard.Event
drop_of None None = None
drop_of None (Some job) = Some (of_shard.DropJob (Some job))
drop_of (Some hand) job = Some (of_shard.DropJob None)

abbrev pub work_event : ShardWork → Bool → ShardWithJobs → Option of_shard.Event
work_event Attach won line = Some of_shard.Attach
work_event Begin won line = begin_of (first_of line.waiting)
work_event (Claim index) won line = Some (of_shard.Claim index won)
work_event End won line = Some of_shard.End
work_event DropJob won line = drop_of line.shard.hand (first_of line.waiting)
work_event DrainShard won line = Some of_shard.Drain

-- ---- why an event is refused, the first cause first (profile)

-- a connection of no shard is unknown
abbrev pub conn_refusal : ConnEvent → ℕ → Option ShardWithJobs → Option NodeFault
conn_refusal event conn None = Some (Shard NoConn)
conn_refusal event conn (Some line) =
    option_map Shard (shard_refusal line.shard (conn_event conn event))

-- without a job there is none to begin or drop; that one is in hand is told first
abbrev pub no_job : Option Job → NodeFault
no_job None = Shard NoJob
no_job (Some job) = Shard JobInHand

abbrev pub event_refusal : ShardWithJobs → Option of_shard.Event → Option NodeFault
event_refusal line None = Some (no_job line.shard.hand)
event_refusal line (Some event) = option_map Shard (shard_refusal line.shard event)

abbrev pub work_refusal : ShardWork → Option ShardWithJobs → Option NodeFault
work_refusal work None = Some NoShard
work_refusal work (Some line) = event_refusal line (work_event work false line)

abbrev pub collect_refusal_at : hub.State → Option ShardWithJobs → Option NodeFault
collect_refusal_at hub None = Some NoShard
collect_refusal_at hub (Some line) = option_map Hub (collect_refusal hub line.shard.deltas)

abbrev pub own_refusal : ServerIdentity → Node → OwnEvent → Option NodeFault
own_refusal server a (OfConn conn event) = conn_refusal event conn (conn_line server a conn)
own_refusal server a (AtShard shard work) = work_refusal work (shard_line a shard)
own_refusal server a (Publish p) =
    option_map Hub (publish_refusal server a.hub p (finished_turns a.lines))
own_refusal server a (Collect shard) = collect_refusal_at a.hub (shard_line a shard)
own_refusal server a Drain = option_map Hub (drain_refusal a.hub)
own_refusal server a (Dial q) = option_map Session (dial_refusal server a.sessions q)
own_refusal server a Accept = option_map Session (room_refusal a.sessions)
own_refusal server a (CutSession session) =
    option_map Session (cut_refusal (session_at session a.sessions.standing))
own_refusal server a (TakeFrames q count) = option_map Hub (take_refusal server q)

-- the greatest incarnation seen of a server, by its name
abbrev pub seen_name : ServerIdentity → Node → List ℕ → ℕ
seen_name server a name = seen_of (peer_of server a.hub name)

abbrev pub node_refusal : ServerIdentity → Node → NodeEvent → Option NodeFault
node_refusal server a (Own event) = own_refusal server a event
node_refusal server a (Receive frame) =
    option_map Hub (receive_refusal server a.hub (finished_turns a.lines) frame)
node_refusal server a (OnInfo session info) =
    option_map Session
    (info_refusal server a.sessions (session_at session a.sessions.standing) info
    (seen_name server a info.server_name))
node_refusal server a (OnConnect session connect) =
    option_map Session
    (connect_refusal server a.sessions (session_at session a.sessions.standing) connect
    (seen_name server a connect.server_name))

-- ---- the race, which may forget what left the window

-- a claim is made just where there is a candidate; else nothing is won
abbrev pub ClaimRace : RaceState → ℕ → ℕ → Option Job → Option Subscription → Bool → RaceState
    → Type 0
ClaimRace race shard index None sub won after = after ≡ race
ClaimRace race shard index (Some job) None won after = after ≡ race
ClaimRace race shard index (Some job) (Some sub) won after =
    IsClaimed race shard job.turn index won after

abbrev pub WorkRace : RaceState → ℕ → ShardWork → Option ShardWithJobs → Bool → RaceState → Type 0
WorkRace race shard work None won after = after ≡ race
WorkRace race shard Attach (Some line) won after = after ≡ race
WorkRace race shard Begin (Some line) won after = after ≡ race
WorkRace race shard (Claim index) (Some line) won after =
    ClaimRace race shard index line.shard.hand (candidate_of line.shard line.shard.hand index) won
    after
WorkRace race shard End (Some line) won after =
    IsFinished race shard (line.shard.finished + 1) after
WorkRace race shard DropJob (Some line) won after =
    IsFinished race shard (line.shard.finished + 1) after
WorkRace race shard DrainShard (Some line) won after = after ≡ race

abbrev pub OwnRace : Node → OwnEvent → Bool → RaceState → Type 0
OwnRace a (OfConn conn event) won after = after ≡ a.race
OwnRace a (AtShard shard work) won after = WorkRace a.race shard work (shard_line a shard) won after
OwnRace a (Publish p) won after = IsIssued a.race (a.race.issued + 1) after
OwnRace a (Collect shard) won after = after ≡ a.race
OwnRace a Drain won after = after ≡ a.race
OwnRace a (Dial q) won after = after ≡ a.race
OwnRace a Accept won after = after ≡ a.race
OwnRace a (CutSession session) won after = after ≡ a.race
OwnRace a (TakeFrames q count) won after = after ≡ a.race

abbrev pub BodyRace : Node → Body → RaceState → Type 0
BodyRace a (Plus weighted) after = after ≡ a.race
BodyRace a (Minus key) after = after ≡ a.race
BodyRace a (Snapshot keys) after = after ≡ a.race
BodyRace a (Msg content queues) after = IsIssued a.race (a.race.issued + 1) after

abbrev pub NodeRace : Node → NodeEvent → Bool → RaceState → Type 0
NodeRace a (Own event) won after = OwnRace a event won after
NodeRace a (Receive frame) won after = BodyRace a frame.body after
NodeRace a (OnInfo session info) won after = after ≡ a.race
NodeRace a (OnConnect session connect) won after = after ≡ a.race

-- ---- the server after an event that is not refused

abbrev pub line_after : of_shard.Event → ShardWithJobs → ShardWithJobs
line_after event line = record {
  shard = shard_after line.shard event;
  waiting = waiting_after line.shard.hand event line.waiting;
}

abbrev pub line_after_if : Option of_shard.Event → ShardWithJobs → ShardWithJobs
line_after_if None line = line
line_after_if (Some event) line = line_after event line

abbrev pub set_line : List ShardWithJobs → ℕ → (ShardWithJobs → ShardWithJobs)
    → Option ShardWithJobs → List ShardWithJobs
set_line lines place change None = lines
set_line lines place change (Some line) = set lines place (change line)

abbrev pub on_line : Node → ℕ → (ShardWithJobs → ShardWithJobs) → Option ShardWithJobs → Node
on_line a place change line = record a { lines = set_line a.lines place change line }

-- each shard gets the job
abbrev pub line_with_job : Job → ShardWithJobs → ShardWithJobs
line_with_job job line = record line { waiting = line.waiting ++ job ∷ [] }

abbrev pub deltas_at : Option ShardWithJobs → List Delta
deltas_at None = []
deltas_at (Some line) = line.shard.deltas

-- a peer without room for the frames of a collect is cut, and so is its kept session
abbrev pub collected_at : ServerIdentity → Node → ℕ → List Delta → Node
collected_at server a shard deltas =
    record (on_line a (shard - 1) (line_after of_shard.Collect) (shard_line a shard)) {
      hub = after_collect server a.hub deltas;
      sessions = without_peers (slow_peers a.hub deltas) a.sessions;
    }

-- the same of a drain
abbrev pub drained_at : ServerIdentity → Node → Node
drained_at server a = record a {
  hub = after_drain server a.hub;
  sessions = without_peers (peers_too_slow a.hub) a.sessions;
}

-- the peer of a kept session is cut with it
abbrev pub cut_if : hub.State → Option ℕ → hub.State
cut_if hub None = hub
cut_if hub (Some q) = cut hub q

abbrev pub own_after : ServerIdentity → Node → OwnEvent → Bool → RaceState → Node
own_after server a (OfConn conn event) won race =
    on_line a (conn_place server conn) (line_after (conn_event conn event))
    (conn_line server a conn)
own_after server a (AtShard shard work) won race =
    record (on_line a (shard - 1) (λ line. line_after_if (work_event work won line) line)
    (shard_line a shard)) {
      race = race;
    }
own_after server a (Publish p) won race = record a {
  hub = after_publish server a.hub p;
  race = race;
  lines = map (line_with_job (own_job server a.hub p)) a.lines;
}
own_after server a (Collect shard) won race =
    collected_at server a shard (deltas_at (shard_line a shard))
own_after server a Drain won race = drained_at server a
own_after server a (Dial q) won race = record a { sessions = after_dial a.sessions q }
own_after server a Accept won race = record a { sessions = after_accept a.sessions }
own_after server a (CutSession session) won race = record a {
  hub = cut_if a.hub (peer_of_session session a.sessions.standing);
  sessions = after_cut session a.sessions;
}
own_after server a (TakeFrames q count) won race = record a { hub = after_take a.hub q count }

-- a frame of a greater incarnation of its server ends the session that was kept with it
abbrev pub sessions_after_frame : ServerIdentity → Node → Frame → sessions.State
sessions_after_frame server a frame =
    if nat_lt (seen_name server a frame.from) frame.inc
    then without_peer (place server frame.from) a.sessions
    else a.sessions

-- a message gives each shard its job, and goes to nobody else (NATS documentation, "Cluster
-- Protocol")
abbrev pub lines_after_body : Node → Frame → Body → List ShardWithJobs
lines_after_body a frame (Plus weighted) = a.lines
lines_after_body a frame (Minus key) = a.lines
lines_after_body a frame (Snapshot keys) = a.lines
lines_after_body a frame (Msg content queues) =
    map (line_with_job (routed_job a.hub frame content queues)) a.lines

abbrev pub node_after : ServerIdentity → Node → NodeEvent → Bool → RaceState → Node
node_after server a (Own event) won race = own_after server a event won race
node_after server a (Receive frame) won race = record {
  hub = after_receive server a.hub frame;
  sessions = sessions_after_frame server a frame;
  race = race;
  lines = lines_after_body a frame frame.body;
}
node_after server a (OnInfo session info) won race = record a {
  hub = up server a.hub (place server info.server_name) info.inc;
  sessions = after_info server a.sessions info (session_at session a.sessions.standing);
}
node_after server a (OnConnect session connect) won race = record a {
  hub = up server a.hub (place server connect.server_name) connect.inc;
  sessions = after_completion session (connect_offer server connect) a.sessions;
}

-- ---- the frames that it puts for peers, or gives to a session, in order

abbrev pub own_frames : ServerIdentity → Node → OwnEvent → List RouteFrame
own_frames server a (OfConn conn event) = []
own_frames server a (AtShard shard work) = []
own_frames server a (Publish p) = map route.Numbered (frames_of server a.hub p)
own_frames server a (Collect shard) =
    map route.Numbered (collect_frames server a.hub (deltas_at (shard_line a shard)))
own_frames server a Drain = map route.Numbered (drain_frames server a.hub)
own_frames server a (Dial q) = []
own_frames server a Accept = route.Info (own_info server) ∷ []
own_frames server a (CutSession session) = []
own_frames server a (TakeFrames q count) = []

abbrev pub node_frames : ServerIdentity → Node → NodeEvent → List RouteFrame
node_frames server a (Own event) = own_frames server a event
node_frames server a (Receive frame) = []
node_frames server a (OnInfo session info) =
    route.Connect (own_connect server info (serial_of (session_at session a.sessions.standing)))
    ∷ route.Numbered (snapshot_to server a.hub (place server info.server_name) info.inc) ∷ []
node_frames server a (OnConnect session connect) =
    route.Numbered (snapshot_to server a.hub (place server connect.server_name) connect.inc) ∷ []

-- ---- the step: whether a claim was won, and the race after it, are the race's to say
pub record NodeStep (server : ServerIdentity) (a : Node) (event : NodeEvent) (won : Bool)
    (race : RaceState) (b : Node) : Type 0 where
  pub cause : node_refusal server a event ≡ None
  pub moves : NodeRace a event won race
  pub after : b ≡ node_after server a event won race
