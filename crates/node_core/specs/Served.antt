-- A server as one value with who it is, and how its calls go.
use Rattle.std.specs.Prelude.{◌≡◌, ℕ, ◌≤◌, ◌+◌, Bool, false, List, Option, Some, None, Result, Ok, Err}
use Rattle.std.specs.Option.{option_map}
use Rattle.subj.specs.Servers.{ServerIdentity, IsListed, place}
use Rattle.subj.specs.declared.failures.Failure.{Failure}
use Rattle.subj.specs.declared.failures.Failure.TheVariants.{Refused, OutOfMemory}
use Rattle.subj.specs.declared.jobs.Job.{Job}
use Rattle.subj.specs.declared.limits.TheConstants.{MAX_SHARDS}
use Rattle.claim_race.specs.Race.{RaceState}
use Rattle.hub_core.specs.Peers.{first_frames}
use Rattle.hub_core.specs.Publishing.{Publication}
use Rattle.hub_core.specs.declared.faults.HubFault.{HubFault}
use Rattle.route_values.specs.Frames.{Frame}
use Rattle.route_values.specs.Records.{Info, Connect}
use Rattle.route_session.specs.State.{peer_of_session, session_at, number_kept}
use Rattle.route_session.specs.Steps.{own_info, own_connect, serial_of}
use Rattle.route_session.specs.declared.faults.SessionFault.{SessionFault}
use Rattle.shard_core.specs.Answers.{IsTold}
use Rattle.shard_core.specs.Lines.{first_of}
use Rattle.shard_core.specs.declared.calls.Begun.{Begun}
use Rattle.shard_core.specs.ShardEvents as of_shard
use Rattle.shard_core.specs.ShardSteps.{shard_answer}
use Rattle.node_law.specs.declared.faults.NodeFault.{NodeFault}
use Rattle.node_law.specs.declared.faults.NodeFault.TheVariants.{Session, Hub}
use Rattle.node_parts.specs.declared.lines.Claimed.{Claimed}
use Rattle.node_parts.specs.declared.told.Received.{Received}
use Rattle.node_parts.specs.declared.told.Received.TheVariants.{Routed, Heard}
use Rattle.node_law.specs.Answers as answer
use Rattle.node_law.specs.Answers.{Answer, node_answer}
use Rattle.node_law.specs.Events.{NodeEvent, Own, OfConn, AtShard, Publish, Collect, Drain, Dial, Accept, CutSession, TakeFrames, Receive, OnInfo, OnConnect}
use Rattle.node_law.specs.declared.events.ConnEvent.{ConnEvent}
use Rattle.node_law.specs.declared.events.ShardWork.{ShardWork}
use Rattle.node_law.specs.declared.events.ShardWork.TheVariants.{Begin, Claim, DropJob}
use Rattle.node_law.specs.Sound.{SoundNode}
use Rattle.node_law.specs.State.{ShardWithJobs, Node, new_node}
use Rattle.node_law.specs.Steps.{conn_line, shard_line, conn_event, work_event, node_refusal, NodeStep}
pub use Rattle.node_parts.specs.Lines.{LineStep, LineBegins, LineEnds, dropped_job, LineDrops, is_won, IsClaimTold, LineClaims, MayClaim, WaitsNext, failure_of_shard, of_answer, of_decision}
pub use Rattle.node_parts.specs.Jobs.{MayIssue, AreGiven, IsReceived, MayRoute, AreRouted}
pub use Rattle.node_parts.specs.Places.{place_of_conn, place_of_shard}
use Rattle.node_parts.specs.Sides.{HubWithSessions}

-- ---- what a part refuses, its server refuses

abbrev pub failure_of_session : Failure SessionFault → Failure NodeFault
failure_of_session (Refused why) = Refused (Session why)
failure_of_session OutOfMemory = OutOfMemory

abbrev pub of_session_answer : {X : Type 0}
    → Result X (Failure SessionFault)
    → Result X (Failure NodeFault)
of_session_answer (Ok x) = Ok x
of_session_answer (Err why) = Err (failure_of_session why)

abbrev pub of_session_decision : {X : Type 0} → Result X SessionFault → Result X NodeFault
of_session_decision (Ok x) = Ok x
of_session_decision (Err why) = Err (Session why)

abbrev pub failure_of_hub : Failure HubFault → Failure NodeFault
failure_of_hub (Refused why) = Refused (Hub why)
failure_of_hub OutOfMemory = OutOfMemory

abbrev pub of_hub_answer : {X : Type 0} → Result X (Failure HubFault) → Result X (Failure NodeFault)
of_hub_answer (Ok x) = Ok x
of_hub_answer (Err why) = Err (failure_of_hub why)

-- ---- a server's calls

pub record Served : Type 0 where
  pub server : ServerIdentity
  pub node : Node

-- a server with these parts
abbrev pub served_of_parts : HubWithSessions → RaceState → List ShardWithJobs → Served
served_of_parts side race lines = record {
  server = side.server;
  node = record { hub = side.hub; sessions = side.sessions; race = race; lines = lines };
}

-- a server that has just started
abbrev pub new_server : ServerIdentity → Served
new_server server = record { server = server; node = new_node server }

-- the first cause for which the event is refused
abbrev pub refusal : Served → NodeEvent → Option NodeFault
refusal s event = node_refusal s.server s.node event

-- it makes a step of this event; what the race is after it is the race's to say
pub record DoesStep (old : Served) (event : NodeEvent) (won : Bool) (new : Served) : Type 0 where
  pub race : RaceState
  pub server : new.server ≡ old.server
  pub step : NodeStep old.server old.node event won race new.node

-- what the line answers to the event
abbrev pub line_answer : Option of_shard.Event → ShardWithJobs → Option of_shard.Answer
line_answer event line = option_map (shard_answer line.shard) event

abbrev pub answer_at : Option of_shard.Event → Option ShardWithJobs → Option of_shard.Answer
answer_at event None = None
answer_at event (Some line) = line_answer event line

abbrev pub work_answer : ShardWork → Bool → Option ShardWithJobs → Option of_shard.Answer
work_answer work won None = None
work_answer work won (Some line) = line_answer (work_event work won line) line

-- ---- what always holds

-- the server is one of its cluster and has shards, and all is in order
pub record IsKept (s : Served) : Type 0 where
  pub listed : IsListed s.server
  pub some : 1 ≤ s.server.shards
  pub few : s.server.shards ≤ MAX_SHARDS
  pub sound : SoundNode s.server s.node

-- ---- what the calls do

-- the call of a connection, with the answer of its shard
pub record ConnStep (old : Served) (conn : ℕ) (event : ConnEvent) (answer : of_shard.Answer)
    (new : Served) : Type 0 where
  pub step : DoesStep old (Own (OfConn conn event)) false new
  pub answered :
      Some answer ≡ answer_at (Some (conn_event conn event)) (conn_line old.server old.node conn)

-- the call of a shard, with its answer
pub record WorkStep (old : Served) (shard : ℕ) (work : ShardWork) (won : Bool)
    (answer : of_shard.Answer) (new : Served) : Type 0 where
  pub step : DoesStep old (Own (AtShard shard work)) won new
  pub answered : Some answer ≡ work_answer work won (shard_line old.node shard)

-- what a begin answers, of the line's shard before it
abbrev pub IsToldAt : Bool → Option ShardWithJobs → Begun → Type 0
IsToldAt copies None begun = ⊥
IsToldAt copies (Some line) begun =
    (job : Job) × (first_of line.waiting ≡ Some job) × IsTold copies line.shard job begun

pub record BeginStep (copies : Bool) (old : Served) (shard : ℕ) (begun : Begun) (new : Served) :
    Type 0 where
  pub step : DoesStep old (Own (AtShard shard Begin)) false new
  pub told : IsToldAt copies (shard_line old.node shard) begun

-- the number of the session
pub record DialStep (old : Served) (peer session : ℕ) (new : Served) : Type 0 where
  pub step : DoesStep old (Own (Dial peer)) false new
  pub answered : session ≡ old.node.sessions.numbers + 1

pub record AcceptStep (old : Served) (session : ℕ) (info : Info) (new : Served) : Type 0 where
  pub step : DoesStep old (Own Accept) false new
  pub answered : session ≡ old.node.sessions.numbers + 1
  pub sent : info ≡ own_info old.server

-- the peer whose kept session it was
pub record CutStep (old : Served) (session : ℕ) (peer : Option ℕ) (new : Served) : Type 0 where
  pub step : DoesStep old (Own (CutSession session)) false new
  pub answered : peer ≡ peer_of_session session old.node.sessions.standing

-- the first frames that waited
pub record FramesStep (old : Served) (peer count : ℕ) (frames : List Frame) (new : Served) :
    Type 0 where
  pub step : DoesStep old (Own (TakeFrames peer count)) false new
  pub answered : frames ≡ first_frames old.node.hub peer count

abbrev pub dropped_turn : Option ShardWithJobs → Option ℕ
dropped_turn None = None
dropped_turn (Some line) = option_map (λ (job : Job). job.turn) (dropped_job line)

-- a job is dropped at a shard, and gives the turn that is finished
pub record DropStep (old : Served) (shard turn : ℕ) (new : Served) : Type 0 where
  pub step : DoesStep old (Own (AtShard shard DropJob)) false new
  pub answered : dropped_turn (shard_line old.node shard) ≡ Some turn

-- a claim at a shard answers so
abbrev pub IsClaimToldAt : Bool → Claimed → Option of_shard.Answer → Type 0
IsClaimToldAt copies claimed None = ⊥
IsClaimToldAt copies claimed (Some answer) = IsClaimTold copies claimed answer

pub record ClaimStep (copies : Bool) (old : Served) (shard index : ℕ) (claimed : Claimed)
    (new : Served) : Type 0 where
  pub step : DoesStep old (Own (AtShard shard (Claim index))) (is_won claimed) new
  pub told : IsClaimToldAt copies claimed
      (work_answer (Claim index) (is_won claimed) (shard_line old.node shard))

-- the session that the new one took the place of, and the CONNECT to send
pub record InfoStep (old : Served) (session : ℕ) (info : Info) (instead_of : Option ℕ)
    (connect : Connect) (new : Served) : Type 0 where
  pub step : DoesStep old (OnInfo session info) false new
  pub instead :
      instead_of ≡ number_kept (place old.server info.server_name) old.node.sessions.standing
  pub sent : connect
      ≡ own_connect old.server info (serial_of (session_at session old.node.sessions.standing))

pub record ConnectStep (old : Served) (session : ℕ) (connect : Connect) (instead_of : Option ℕ)
    (new : Served) : Type 0 where
  pub step : DoesStep old (OnConnect session connect) false new
  pub instead :
      instead_of ≡ number_kept (place old.server connect.server_name) old.node.sessions.standing

-- ---- what is told

abbrev pub told_of_received : Received → Answer
told_of_received (Routed turn) = answer.Routed turn
told_of_received (Heard mark) = answer.Heard mark

-- the turn, and how many frames were put
pub record PublishStep (old : Served) (p : Publication) (turn frames : ℕ) (new : Served) :
    Type 0 where
  pub step : DoesStep old (Own (Publish p)) false new
  pub answered : answer.Issued turn frames ≡ node_answer old.server old.node (Own (Publish p)) false

-- the turn of a message, or the mark of news
pub record ReceiveStep (old : Served) (frame : Frame) (received : Received) (new : Served) :
    Type 0 where
  pub step : DoesStep old (Receive frame) false new
  pub answered : told_of_received received ≡ node_answer old.server old.node (Receive frame) false

-- how many changes, how many frames were put, and the peers cut
pub record CollectStep (old : Served) (shard changes frames : ℕ) (cut : List ℕ) (new : Served) :
    Type 0 where
  pub step : DoesStep old (Own (Collect shard)) false new
  pub answered : answer.Collected changes frames cut
      ≡ node_answer old.server old.node (Own (Collect shard)) false

-- the same of a drain
pub record DrainStep (old : Served) (changes frames : ℕ) (cut : List ℕ) (new : Served) :
    Type 0 where
  pub step : DoesStep old (Own Drain) false new
  pub answered :
      answer.Collected changes frames cut ≡ node_answer old.server old.node (Own Drain) false
