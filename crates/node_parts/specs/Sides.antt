-- The hub's part of a server: its hub and its sessions, which are stepped together.
use Rattle.std.specs.Prelude.{◌≡◌, ℕ, nat_lt, List, [], ◌∷◌, ◌++◌, None, if◌then◌else◌}
use Rattle.subj.specs.Servers.{ServerIdentity, place}
use Rattle.subj.specs.declared.jobs.Job.{Job}
use Rattle.hub_core.specs.Events as of_hub
use Rattle.hub_core.specs.State as hub
use Rattle.hub_core.specs.State.{new_hub, peer_of, seen_of}
use Rattle.hub_core.specs.Peers.{up}
use Rattle.hub_core.specs.Steps.{hub_refusal, hub_after, hub_answer}
use Rattle.hub_core.specs.Telling.{slow_peers, peers_too_slow}
use Rattle.route_session.specs.Events as of_sessions
use Rattle.route_session.specs.State as sessions
use Rattle.route_session.specs.State.{no_sessions, peer_of_session}
use Rattle.route_session.specs.Steps.{session_refusal, session_after, session_answer, without_peers, without_peer}
use Rattle.node_law.specs.Steps.{cut_if}

pub record HubWithSessions : Type 0 where
  pub server : ServerIdentity
  pub hub : hub.State
  pub sessions : sessions.State

-- the greatest incarnation seen of a server, by its name
abbrev pub seen_name : HubWithSessions → List ℕ → ℕ
seen_name s name = seen_of (peer_of s.server s.hub name)

abbrev pub new_side : ServerIdentity → HubWithSessions
new_side server = record { server = server; hub = new_hub server; sessions = no_sessions }

-- an event is the hub's or the sessions'; what crosses a lock comes along
pub data Event : Type 0 where
  ByHub : (event : of_hub.Event) → Event
  BySessions : (event : of_sessions.Event) → Event

pub data Answer : Type 0 where
  OfHub : (answer : of_hub.Answer) → Answer
  OfSessions : (answer : of_sessions.Answer) → Answer

-- ---- what may be asked: a peer comes up and is cut by its session alone; and an INFO or a CONNECT
-- comes with the greatest incarnation that the hub has seen of its sender

abbrev pub IsAskedHub : of_hub.Event → Type 0
IsAskedHub (of_hub.Publish p finished) = Unit {0}
IsAskedHub (of_hub.Receive frame finished) = Unit {0}
IsAskedHub (of_hub.Collect shard deltas) = Unit {0}
IsAskedHub of_hub.Drain = Unit {0}
IsAskedHub (of_hub.Up q inc) = ⊥
IsAskedHub (of_hub.Cut q) = ⊥
IsAskedHub (of_hub.TakeFrom q count) = Unit {0}

abbrev pub IsAskedSessions : HubWithSessions → of_sessions.Event → Type 0
IsAskedSessions s (of_sessions.Dial q) = Unit {0}
IsAskedSessions s of_sessions.Accept = Unit {0}
IsAskedSessions s (of_sessions.OnInfo session info least) = least ≡ seen_name s info.server_name
IsAskedSessions s (of_sessions.OnConnect session connect least) =
    least ≡ seen_name s connect.server_name
IsAskedSessions s (of_sessions.Cut session) = Unit {0}

abbrev pub IsAsked : HubWithSessions → Event → Type 0
IsAsked s (ByHub event) = IsAskedHub event
IsAsked s (BySessions event) = IsAskedSessions s event

-- nothing is against it
abbrev pub IsFree : HubWithSessions → Event → Type 0
IsFree s (ByHub event) = hub_refusal s.server s.hub event ≡ None
IsFree s (BySessions event) = session_refusal s.server s.sessions event ≡ None

-- ---- what is after it

-- a frame of a greater incarnation than was seen ends the session that was kept with its server, at
-- this place
abbrev pub session_after_frame : ℕ → ℕ → ℕ → sessions.State → sessions.State
session_after_frame q seen inc s = if nat_lt seen inc then without_peer q s else s

-- a frame of a later life of its server ends the session that was kept with it, and so does a
-- collect with each peer that it cuts
abbrev pub sessions_with : HubWithSessions → of_hub.Event → sessions.State
sessions_with s (of_hub.Publish p finished) = s.sessions
sessions_with s (of_hub.Receive frame finished) =
    session_after_frame (place s.server frame.from) (seen_name s frame.from) frame.inc s.sessions
sessions_with s (of_hub.Collect shard deltas) = without_peers (slow_peers s.hub deltas) s.sessions
sessions_with s of_hub.Drain = without_peers (peers_too_slow s.hub) s.sessions
sessions_with s (of_hub.Up q inc) = s.sessions
sessions_with s (of_hub.Cut q) = s.sessions
sessions_with s (of_hub.TakeFrom q count) = s.sessions

-- a peer is up once its session is kept, and cut with it
abbrev pub hub_with : HubWithSessions → of_sessions.Event → hub.State
hub_with s (of_sessions.Dial q) = s.hub
hub_with s of_sessions.Accept = s.hub
hub_with s (of_sessions.OnInfo session info least) =
    up s.server s.hub (place s.server info.server_name) info.inc
hub_with s (of_sessions.OnConnect session connect least) =
    up s.server s.hub (place s.server connect.server_name) connect.inc
hub_with s (of_sessions.Cut session) = cut_if s.hub (peer_of_session session s.sessions.standing)

abbrev pub side_after : HubWithSessions → Event → HubWithSessions
side_after s (ByHub event) = record {
  server = s.server;
  hub = hub_after s.server s.hub event;
  sessions = sessions_with s event;
}
side_after s (BySessions event) = record {
  server = s.server;
  hub = hub_with s event;
  sessions = session_after s.server s.sessions event;
}

abbrev pub side_answer : HubWithSessions → Event → Answer
side_answer s (ByHub event) = OfHub (hub_answer s.server s.hub event)
side_answer s (BySessions event) = OfSessions (session_answer s.server s.sessions event)

-- the event is done, with this answer
pub record IsDone (old : HubWithSessions) (event : Event) (answer : Answer)
    (new : HubWithSessions) : Type 0 where
  pub free : IsFree old event
  pub asked : IsAsked old event
  pub answered : answer ≡ side_answer old event
  pub after : new ≡ side_after old event

-- ---- what was done, the newest event first

pub record Done : Type 0 where
  pub before : HubWithSessions
  pub event : Event
  pub answer : Answer

abbrev pub Leads : HubWithSessions → List Done → HubWithSessions → Type 0
Leads from [] to = to ≡ from
Leads from (d ∷ earlier) to = IsDone d.before d.event d.answer to × Leads from earlier d.before

-- the job that an answer gives to the shards
abbrev pub job_of_hub : of_hub.Answer → List Job
job_of_hub (of_hub.Issued job frames) = job ∷ []
job_of_hub (of_hub.Routed job) = job ∷ []
job_of_hub (of_hub.Heard mark) = []
job_of_hub (of_hub.Collected changes frames cut) = []
job_of_hub (of_hub.Drained frames cut) = []
job_of_hub (of_hub.IsUp snapshot) = []
job_of_hub of_hub.WasCut = []
job_of_hub (of_hub.Taken frames) = []

abbrev pub job_in : Answer → List Job
job_in (OfHub answer) = job_of_hub answer
job_in (OfSessions answer) = []

-- the jobs given, in order
abbrev pub jobs_of : List Done → List Job
jobs_of [] = []
jobs_of (d ∷ earlier) = jobs_of earlier ++ job_in d.answer
