-- Events, answers and refusals as the code has them, and as the definitions do.
use Rattle.std.specs.Prelude.{ℕ, Option, Some, None, Result, Ok, Err}
use Rattle.subj.specs.declared.failures.Failure.{Failure}
use Rattle.subj.specs.declared.failures.Failure.TheVariants as failure
use Rattle.node_law.specs.declared.events.OwnEvent.{OwnEvent}
use Rattle.node_law.specs.declared.events.OwnEvent.TheVariants as own
use Rattle.node_law.specs.declared.events.NodeEvent.{NodeEvent}
use Rattle.node_law.specs.declared.events.NodeEvent.TheVariants as node
use Rattle.node_core.specs.declared.answers.Answer.{Answer}
use Rattle.node_core.specs.declared.answers.Answer.TheVariants as answer
use Rattle.node_law.specs.declared.faults.NodeFault.{NodeFault}
use Rattle.node_core.specs.declared.refused.Refused.{Refused}
use Rattle.node_core.specs.declared.refused.Refused.TheVariants.{Fault, OutOfMemory}
use Rattle.node_law.specs.Answers as told
use Rattle.node_law.specs.Events as asked
use Rattle.node_law.specs.Faults.{node_fault_number}

-- ---- events

abbrev pub own_event_of : OwnEvent → asked.OwnEvent
own_event_of (own.OfConn conn event) = asked.OfConn conn event
own_event_of (own.AtShard shard work) = asked.AtShard shard work
own_event_of (own.Publish conn publication word) =
    asked.Publish (record { conn = conn; publication = publication; word = word })
own_event_of (own.Collect shard) = asked.Collect shard
own_event_of own.Drain = asked.Drain
own_event_of (own.Dial peer) = asked.Dial peer
own_event_of own.Accept = asked.Accept
own_event_of (own.CutSession session) = asked.CutSession session
own_event_of (own.TakeFrames peer count) = asked.TakeFrames peer count

abbrev pub event_of : NodeEvent → asked.NodeEvent
event_of (node.Own event) = asked.Own (own_event_of event)
event_of (node.Receive frame) = asked.Receive frame
event_of (node.OnInfo session info) = asked.OnInfo session info
event_of (node.OnConnect session connect) = asked.OnConnect session connect

-- ---- answers

abbrev pub answer_of : Answer → told.Answer
answer_of (answer.Attached conn) = told.Attached conn
answer_of (answer.Opened sub) = told.Opened sub
answer_of answer.AlreadyOpen = told.AlreadyOpen
answer_of (answer.Issued turn frames) = told.Issued turn frames
answer_of (answer.Routed turn) = told.Routed turn
answer_of (answer.Heard mark) = told.Heard mark
answer_of (answer.Collected changes frames cut) = told.Collected changes frames cut.items
answer_of (answer.Began placed shut) = told.Began placed shut
answer_of (answer.Won sub) = told.Won sub
answer_of answer.Lost = told.Lost
answer_of answer.Nobody = told.Nobody
answer_of (answer.OnSession session) = told.OnSession session
answer_of (answer.Kept instead_of) = told.Kept instead_of
answer_of (answer.TakenEntries entries) = told.TakenEntries entries.items
answer_of (answer.TakenFrames frames) = told.TakenFrames frames.items
answer_of answer.Nothing = told.Nothing

-- ---- refusals

abbrev pub failure_of : Refused → Failure NodeFault
failure_of (Fault why) = failure.Refused why
failure_of OutOfMemory = failure.OutOfMemory

-- an answer with its refusal as a failure
abbrev pub result_in_code : {T : Type 0} → Result T Refused → Result T (Failure NodeFault)
result_in_code (Ok x) = Ok x
result_in_code (Err why) = Err (failure_of why)

-- want of memory has no number
abbrev pub number_of : Refused → Option ℕ
number_of (Fault why) = Some (node_fault_number why)
number_of OutOfMemory = None
