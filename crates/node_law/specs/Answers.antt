-- What a server answers to an event that is not refused: of what its shards, its hub and its
-- sessions answer, that which the caller is told. What is put into outboxes, and what closes, is
-- told apart.
use Rattle.std.specs.Prelude.{ℕ, Bool, List, length, Option, Some, None}
use Rattle.outbox.specs.Views.{Written}
use Rattle.subj.specs.Servers.{ServerIdentity}
use Rattle.subj.specs.declared.identities.SubId.{SubId}
use Rattle.route_values.specs.Frames.{Frame}
use Rattle.shard_core.specs.ShardEvents as of_shard
use Rattle.shard_core.specs.ShardSteps.{shard_answer}
use Rattle.hub_core.specs.Events as of_hub
use Rattle.hub_core.specs.Steps.{hub_answer}
use Rattle.route_session.specs.Events as of_sessions
use Rattle.route_session.specs.Steps.{session_answer}
use Rattle.node_law.specs.State.{ShardWithJobs, Node, finished_turns}
use Rattle.node_law.specs.Events.{OwnEvent, OfConn, AtShard, Publish, Collect, Drain, Dial, Accept, CutSession, TakeFrames, NodeEvent, Own, Receive, OnInfo, OnConnect}
use Rattle.node_law.specs.Steps.{conn_line, shard_line, conn_event, work_event, deltas_at, seen_name}

pub data Answer : Type 0 where
  -- the connection
  Attached : (conn : ℕ) → Answer
  Opened : (sub : SubId) → Answer
  -- a sid that is open changes nothing
  AlreadyOpen : Answer
  -- the turn, and how many frames were put
  Issued : (turn frames : ℕ) → Answer
  -- the turn of a message that was received
  Routed : (turn : ℕ) → Answer
  -- the number of the last change of interest heard
  Heard : (mark : ℕ) → Answer
  -- how many changes, how many frames were put, and the peers cut; a drain makes one change
  Collected : (changes frames : ℕ) (cut : List ℕ) → Answer
  -- how many messages were placed, and how many connections shut
  Began : (placed shut : ℕ) → Answer
  Won : (sub : SubId) → Answer
  Lost : Answer
  Nobody : Answer
  -- the session that was made
  OnSession : (session : ℕ) → Answer
  -- a session is kept now, in place of another
  Kept : (instead_of : Option ℕ) → Answer
  TakenEntries : (entries : List Written) → Answer
  TakenFrames : (frames : List Frame) → Answer
  Nothing : Answer

-- ---- what is told of the answer of a part

abbrev pub told_of_shard : of_shard.Answer → Answer
told_of_shard (of_shard.Attached conn) = Attached conn
told_of_shard (of_shard.Opened sub) = Opened sub
told_of_shard of_shard.AlreadyOpen = AlreadyOpen
told_of_shard (of_shard.Unsubscribed ended) = Nothing
told_of_shard (of_shard.Replied shut ended) = Nothing
told_of_shard of_shard.HeadersSet = Nothing
told_of_shard (of_shard.WasShut ended) = Nothing
told_of_shard (of_shard.Detached ended) = Nothing
told_of_shard (of_shard.Taken entries) = TakenEntries entries
told_of_shard (of_shard.Began placed closed ended) = Began (length placed) (length closed)
told_of_shard of_shard.Nobody = Nobody
told_of_shard of_shard.Lost = Lost
told_of_shard (of_shard.Won sub placed ended) = Won sub
told_of_shard of_shard.Finished = Nothing
told_of_shard (of_shard.Dropped job) = Nothing
told_of_shard of_shard.Drains = Nothing
told_of_shard (of_shard.Collected deltas) = Nothing

abbrev pub told_of_hub : of_hub.Answer → Answer
told_of_hub (of_hub.Issued job frames) = Issued job.turn (length frames)
told_of_hub (of_hub.Routed job) = Routed job.turn
told_of_hub (of_hub.Heard mark) = Heard mark
told_of_hub (of_hub.Collected changes frames cut) = Collected (length changes) (length frames) cut
told_of_hub (of_hub.Drained frames cut) = Collected 1 (length frames) cut
told_of_hub (of_hub.IsUp snapshot) = Nothing
told_of_hub of_hub.WasCut = Nothing
told_of_hub (of_hub.Taken frames) = TakenFrames frames

abbrev pub told_of_sessions : of_sessions.Answer → Answer
told_of_sessions (of_sessions.Dialed session) = OnSession session
told_of_sessions (of_sessions.Accepted session info) = OnSession session
told_of_sessions (of_sessions.KeptAfterInfo instead_of connect) = Kept instead_of
told_of_sessions (of_sessions.Kept instead_of) = Kept instead_of
told_of_sessions (of_sessions.WasCut peer) = Nothing

-- ---- which part answers

abbrev pub told_of_line : ShardWithJobs → Option of_shard.Event → Answer
told_of_line line None = Nothing
told_of_line line (Some event) = told_of_shard (shard_answer line.shard event)

abbrev pub told_at : Option ShardWithJobs → (ShardWithJobs → Option of_shard.Event) → Answer
told_at None event = Nothing
told_at (Some line) event = told_of_line line (event line)

abbrev pub own_answer : ServerIdentity → Node → OwnEvent → Bool → Answer
own_answer server a (OfConn conn event) won =
    told_at (conn_line server a conn) (λ line. Some (conn_event conn event))
own_answer server a (AtShard shard work) won = told_at (shard_line a shard) (work_event work won)
own_answer server a (Publish p) won =
    told_of_hub (hub_answer server a.hub (of_hub.Publish p (finished_turns a.lines)))
own_answer server a (Collect shard) won =
    told_of_hub (hub_answer server a.hub (of_hub.Collect shard (deltas_at (shard_line a shard))))
own_answer server a Drain won = told_of_hub (hub_answer server a.hub of_hub.Drain)
own_answer server a (Dial q) won =
    told_of_sessions (session_answer server a.sessions (of_sessions.Dial q))
own_answer server a Accept won =
    told_of_sessions (session_answer server a.sessions of_sessions.Accept)
own_answer server a (CutSession session) won =
    told_of_sessions (session_answer server a.sessions (of_sessions.Cut session))
own_answer server a (TakeFrames q count) won =
    told_of_hub (hub_answer server a.hub (of_hub.TakeFrom q count))

-- with whether a claim was won; it is looked at only there
abbrev pub node_answer : ServerIdentity → Node → NodeEvent → Bool → Answer
node_answer server a (Own event) won = own_answer server a event won
node_answer server a (Receive frame) won =
    told_of_hub (hub_answer server a.hub (of_hub.Receive frame (finished_turns a.lines)))
node_answer server a (OnInfo session info) won =
    told_of_sessions
    (session_answer server a.sessions
    (of_sessions.OnInfo session info (seen_name server a info.server_name)))
node_answer server a (OnConnect session connect) won =
    told_of_sessions
    (session_answer server a.sessions
    (of_sessions.OnConnect session connect (seen_name server a connect.server_name)))
