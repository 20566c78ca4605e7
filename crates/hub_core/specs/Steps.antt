-- A hub's step: what may be asked, why an event is refused, the state after it, and the answer.
use Rattle.std.specs.Prelude.{◌≡◌, ℕ, ◌≤◌, true, Option, None, slice_get, Result}
use Rattle.subj.specs.Answers.{IsDecided}
use Rattle.subj.specs.Servers.{ServerIdentity, IsListed, is_peer}
use Rattle.route_values.specs.declared.bodies.Body.{Body}
use Rattle.route_values.specs.declared.bodies.Body.TheVariants.{Plus, Minus, Snapshot, Msg}
use Rattle.route_values.specs.Frames.{Frame}
use Rattle.hub_core.specs.declared.faults.HubFault.{HubFault}
use Rattle.hub_core.specs.State.{State, IsSound, new_hub, seen_of}
use Rattle.hub_core.specs.Publishing.{publish_refusal, after_publish, own_job, frames_of}
use Rattle.hub_core.specs.Receiving.{receive_refusal, after_receive, routed_job}
use Rattle.hub_core.specs.Telling.{collect_refusal, after_collect, changes_of, collect_frames, slow_peers, drain_refusal, after_drain, drain_frames, peers_too_slow}
use Rattle.hub_core.specs.Peers.{up, cut, snapshot_to, take_refusal, after_take, first_frames}
use Rattle.hub_core.specs.Events.{Event, Publish, Receive, Collect, Drain, Up, Cut, TakeFrom, Answer, Issued, Routed, Heard, Collected, Drained, IsUp, WasCut, Taken}

-- ---- what may be asked

-- a session with another server has come up; it has no incarnation below the greatest seen
pub record IsMeeting (server : ServerIdentity) (hub : State) (q inc : ℕ) : Type 0 where
  pub other : is_peer server q ≡ true
  pub first : 1 ≤ inc
  pub fresh : seen_of (slice_get hub.peers q) ≤ inc

abbrev pub IsAsked : ServerIdentity → State → Event → Type 0
IsAsked server hub (Publish p finished) = Unit {0}
IsAsked server hub (Receive frame finished) = Unit {0}
IsAsked server hub (Collect shard deltas) = Unit {0}
IsAsked server hub Drain = Unit {0}
IsAsked server hub (Up q inc) = IsMeeting server hub q inc
IsAsked server hub (Cut q) = is_peer server q ≡ true
IsAsked server hub (TakeFrom q count) = Unit {0}

-- ---- why an event is refused, the first cause first

abbrev pub hub_refusal : ServerIdentity → State → Event → Option HubFault
hub_refusal server hub (Publish p finished) = publish_refusal server hub p finished
hub_refusal server hub (Receive frame finished) = receive_refusal server hub finished frame
hub_refusal server hub (Collect shard deltas) = collect_refusal hub deltas
hub_refusal server hub Drain = drain_refusal hub
hub_refusal server hub (Up q inc) = None
hub_refusal server hub (Cut q) = None
hub_refusal server hub (TakeFrom q count) = take_refusal server q

-- ---- the state after an event that is not refused

abbrev pub hub_after : ServerIdentity → State → Event → State
hub_after server hub (Publish p finished) = after_publish server hub p
hub_after server hub (Receive frame finished) = after_receive server hub frame
hub_after server hub (Collect shard deltas) = after_collect server hub deltas
hub_after server hub Drain = after_drain server hub
hub_after server hub (Up q inc) = up server hub q inc
hub_after server hub (Cut q) = cut hub q
hub_after server hub (TakeFrom q count) = after_take hub q count

-- ---- what is answered

-- a message gives a job; a change or a snapshot moves the mark of what was heard
abbrev pub received_answer : State → Frame → Body → Answer
received_answer hub frame (Plus weighted) = Heard frame.number
received_answer hub frame (Minus key) = Heard frame.number
received_answer hub frame (Snapshot keys) = Heard frame.number
received_answer hub frame (Msg content queues) = Routed (routed_job hub frame content queues)

abbrev pub hub_answer : ServerIdentity → State → Event → Answer
hub_answer server hub (Publish p finished) = Issued (own_job server hub p) (frames_of server hub p)
hub_answer server hub (Receive frame finished) = received_answer hub frame frame.body
hub_answer server hub (Collect shard deltas) =
    Collected (changes_of hub deltas) (collect_frames server hub deltas) (slow_peers hub deltas)
hub_answer server hub Drain = Drained (drain_frames server hub) (peers_too_slow hub)
hub_answer server hub (Up q inc) = IsUp (snapshot_to server hub q inc)
hub_answer server hub (Cut q) = WasCut
hub_answer server hub (TakeFrom q count) = Taken (first_frames hub q count)

-- ---- a step: done as computed, or refused by the first cause, which changes nothing
pub record HubStep (server : ServerIdentity) (old : State) (event : Event)
    (outcome : Result Answer HubFault) (new : State) : Type 0 where
  pub asked : IsAsked server old event
  pub decided : IsDecided (hub_refusal server old event)
      (λ answer. (answer ≡ hub_answer server old event) × (new ≡ hub_after server old event))
      (new ≡ old) outcome

-- a hub is sound at its start, and each step keeps it so
pub record StaysSound : Type 0 where
  pub start : (server : ServerIdentity) → IsSound server (new_hub server)
  pub step : (server : ServerIdentity) (old : State) (event : Event)
      (outcome : Result Answer HubFault) (new : State) → IsListed server → IsSound server old
      → HubStep server old event outcome new → IsSound server new
