-- What the calls that connections and the loop make of a shard and of the hub that are held do: a
-- step of their own, or nothing.
use Rattle.std.specs.Prelude.{◌≡◌, ◌⊎◌, ℕ, Bool, true, false, if◌then◌else◌, List, [], Option, Some, None, Result, Ok, Err}
use Rattle.std.specs.declared.alloc.AllocError.{AllocError}
use Rattle.subj.specs.declared.failures.Failure.{Failure}
use Rattle.subj.specs.declared.failures.Failure.TheVariants.{Refused, OutOfMemory}
use Rattle.subj.specs.declared.messages.Pub.{Pub}
use Rattle.client_frames.specs.declared.err_texts.ErrText.{ErrText}
use Rattle.client_conn.specs.declared.ask.ClientAction.TheVariants as action
use Rattle.client_conn.specs.declared.ask.Refusal.{Refusal}
use Rattle.client_calls.specs.Calls.{Called, attached, asked, detached}
use Rattle.client_calls.specs.declared.outcome.Outcome.{Outcome}
use Rattle.client_calls.specs.declared.outcome.Outcome.TheVariants as outcome
use Rattle.client_refusals.specs.Refusals.{refusal_of_shard, refusal_of_hub}
use Rattle.hub_core.specs.Chosen.{publication_by}
use Rattle.hub_core.specs.Events as of_hub
use Rattle.hub_core.specs.declared.answers.CollectResult.{CollectResult}
use Rattle.hub_core.specs.declared.faults.HubFault.{HubFault}
use Rattle.outbox.specs.Views.{Written, bytes_of_all}
use Rattle.route_session.specs.Events as of_sessions
use Rattle.route_session.specs.Steps.{session_refusal}
use Rattle.route_session.specs.declared.faults.SessionFault.{SessionFault}
use Rattle.route_values.specs.Frames.{Frame}
use Rattle.shard_core.specs.declared.calls.Closed.{Closed}
use Rattle.shard_core.specs.declared.faults.ShardFault.{ShardFault}
use Rattle.shard_core.specs.ShardEvents.{Event, Attach, Subscribe, Unsubscribe, Reply, SetHeaders, Shut, Detach, Take, Answer, Attached, Replied, WasShut, Taken}
use Rattle.shard_core.specs.ShardSteps.{shard_refusal, shard_answer}
use Rattle.node_parts.specs.Sides.{BySessions, OfSessions, ByHub, OfHub, seen_name}
use Rattle.node_parts.specs.declared.told.Issued.{Issued}
use Rattle.node_parts.specs.declared.told.Received.{Received}
use Rattle.node_threads.specs.AtHub as at_hub
use Rattle.node_threads.specs.AtHub.{AtHub, Collects, Publishes, Receives}
use Rattle.node_threads.specs.AtWork.{AtWork, Does}
use Rattle.node_threads.specs.Turns.{Turns}
use Rattle.node_threads.specs.declared.turned.Turned.{Turned}
use Rattle.node_threads.specs.declared.turned.Turned.TheVariants as turned
use Rattle.server_calls.specs.Routed.{Routed, informed, connected, received, was_cut, took}
use Rattle.server_calls.specs.declared.shard.NextJob.{NextJob}
use Rattle.server_calls.specs.declared.shard.NextJob.TheVariants as next
use Rattle.claim_cells.specs.Seats.{RaceId}
use Rattle.subj.specs.Answers.{IsAnswered, IsDecided}
use Rattle.thread_node.specs.Refusing.{has_shard}

-- ---- what an answer comes to

-- of a shard
abbrev pub came_to : {X : Type 0} → Result X (Failure ShardFault) → Outcome
came_to (Ok x) = outcome.Done
came_to (Err (Refused fault)) = outcome.Refused (refusal_of_shard fault)
came_to (Err OutOfMemory) = outcome.Short

-- of a shard, by a call that takes no memory
abbrev pub was_decided : {X : Type 0} → Result X ShardFault → Outcome
was_decided (Ok x) = outcome.Done
was_decided (Err fault) = outcome.Refused (refusal_of_shard fault)

-- of a reply, by which a connection may be shut
abbrev pub was_replied : Result Closed (Failure ShardFault) → Outcome
was_replied (Ok closed) = if closed.shut then outcome.Shut else outcome.Done
was_replied (Err (Refused fault)) = outcome.Refused (refusal_of_shard fault)
was_replied (Err OutOfMemory) = outcome.Short

-- of a connection that is not attached
abbrev pub not_attached : Failure ShardFault → Failure Refusal
not_attached (Refused fault) = Refused (refusal_of_shard fault)
not_attached OutOfMemory = OutOfMemory

-- of the hub
abbrev pub was_published : Result Issued (Failure HubFault) → Outcome
was_published (Ok issued) = outcome.Done
was_published (Err (Refused fault)) = outcome.Refused (refusal_of_hub fault)
was_published (Err OutOfMemory) = outcome.Short

-- ---- a shard

-- whether an answer tells that the connection was shut
abbrev pub shuts : Answer → Bool
shuts (Replied shut ended) = shut
shuts (WasShut ended) = true
shuts answer = false

-- There is no shard of this number, or another one stood under the lock of it.
abbrev pub Lacks : RaceId → ℕ → Type 0
Lacks race number =
    (has_shard race number ≡ false) ⊎ ((there : AtWork) × ¬ (there.part.shard ≡ number))

-- The shard's own step.
pub record Makes (old : AtWork) (event : Event) (shut : Bool) (new : AtWork) : Type 0 where
  pub free : shard_refusal old.state event ≡ None
  pub does : Does old event (shard_answer old.state event) new
  pub shuts : shuts (shard_answer old.state event) ≡ shut

-- It is refused by this cause, and nothing is done.
pub record Refuses (old : AtWork) (event : Event) (fault : ShardFault) (new : AtWork) : Type 0 where
  pub cause : shard_refusal old.state event ≡ Some fault
  pub same : new ≡ old

-- What a shard does that is asked for this step: it makes it, refuses it by the first cause, or has
-- no memory for it, and nothing is done.
abbrev pub Steps : AtWork → Event → Outcome → AtWork → Type 0
Steps old event outcome.Done new = Makes old event false new
Steps old event outcome.Shut new = Makes old event true new
Steps old event (outcome.Refused refusal) new =
    (fault : ShardFault) × (refusal ≡ refusal_of_shard fault) × Refuses old event fault new
Steps old event outcome.Short new = new ≡ old
Steps old event outcome.Elsewhere new = ⊥

-- The same of a step that takes no memory, and by which no connection is shut.
abbrev pub Decides : AtWork → Event → Outcome → AtWork → Type 0
Decides old event outcome.Done new = Makes old event false new
Decides old event (outcome.Refused refusal) new =
    (fault : ShardFault) × (refusal ≡ refusal_of_shard fault) × Refuses old event fault new
Decides old event outcome.Shut new = ⊥
Decides old event outcome.Short new = ⊥
Decides old event outcome.Elsewhere new = ⊥

-- The same of the end of a connection: where it is refused, there is none.
abbrev pub Leaves : AtWork → Event → Bool → AtWork → Type 0
Leaves old event shut new =
    Makes old event shut new ⊎ ((fault : ShardFault) × Refuses old event fault new)

abbrev pub Shuts : AtWork → ℕ → ErrText → Outcome → AtWork → Type 0
Shuts old conn text outcome.Shut new = Leaves old (Shut conn text) true new
Shuts old conn text outcome.Short new = new ≡ old
Shuts old conn text outcome.Done new = ⊥
Shuts old conn text (outcome.Refused refusal) new = ⊥
Shuts old conn text outcome.Elsewhere new = ⊥

-- A call of a shard: that step, for that connection. A publication is for elsewhere, and changes
-- nothing.
abbrev pub MadeByShard : AtWork → Called → AtWork → Type 0
MadeByShard old (attached (Ok conn)) new =
    (shard_refusal old.state Attach ≡ None) × Does old Attach (Attached conn) new
MadeByShard old (attached (Err (Refused refusal))) new =
    (fault : ShardFault) × (refusal ≡ refusal_of_shard fault) × Refuses old Attach fault new
MadeByShard old (attached (Err OutOfMemory)) new = new ≡ old
MadeByShard old (asked conn (action.Reply frame) came) new = Steps old (Reply conn frame) came new
MadeByShard old (asked conn (action.SetHeaders on) came) new =
    Decides old (SetHeaders conn on) came new
MadeByShard old (asked conn (action.Shut text) came) new = Shuts old conn text came new
MadeByShard old (asked conn (action.Subscribe key sid) came) new =
    Steps old (Subscribe conn key sid) came new
MadeByShard old (asked conn (action.Unsubscribe sid max) came) new =
    Decides old (Unsubscribe conn sid max) came new
MadeByShard old (asked conn (action.Publish publication) came) new =
    (came ≡ outcome.Elsewhere) × (new ≡ old)
MadeByShard old (detached conn (Ok done)) new = Leaves old (Detach conn) false new
MadeByShard old (detached conn (Err lack)) new = new ≡ old

-- what a turn of the shard comes to
abbrev pub was_turned : Turned → NextJob
was_turned (turned.Worked turn) = next.Worked 1
was_turned (turned.WorkedRun jobs last) = next.Worked jobs
was_turned turned.Idle = next.Nothing
was_turned turned.Short = next.Short

-- A turn of the shard.
pub record WorksNext (old : AtWork) (came : NextJob) (new : AtWork) : Type 0 where
  pub told : Turned
  pub turns : Turns old told new
  pub comes : came ≡ was_turned told

-- The entries that wait for this connection, at most so many, are taken, and these are their bytes.
pub record TakesAll (old : AtWork) (conn count : ℕ) (bytes : List ℕ) (new : AtWork) : Type 0 where
  pub entries : List Written
  pub does : Does old (Take conn count) (Taken entries) new
  pub are : bytes ≡ bytes_of_all entries

-- The same, or nothing is taken, and nothing changes.
abbrev pub Takes : AtWork → ℕ → ℕ → List ℕ → AtWork → Type 0
Takes old conn count bytes new = TakesAll old conn count bytes new ⊎ ((bytes ≡ []) × (new ≡ old))

-- ---- the hub

-- A publication made of the hub: its own step with what the race has told it, by this word, or a
-- refusal by the first cause.
pub record MadeByHub (shards : ℕ) (old : AtHub) (conn : ℕ) (publication : Pub) (word : ℕ)
    (came : Outcome) (new : AtHub) : Type 0 where
  pub told : Result Issued (Failure HubFault)
  pub publishes : Publishes shards old (publication_by conn publication word) told new
  pub comes : came ≡ was_published told

-- what a frame that was taken comes to
abbrev pub was_received : Result Received (Failure HubFault) → Result (Unit {0}) (Failure HubFault)
was_received (Ok told) = Ok tt
was_received (Err fault) = Err fault

-- A frame that a route hands to the hub: its own step with what the race has told it, or a refusal
-- by the first cause.
pub record ReceivesSo (shards : ℕ) (old : AtHub) (frame : Frame)
    (came : Result (Unit {0}) (Failure HubFault)) (new : AtHub) : Type 0 where
  pub told : Result Received (Failure HubFault)
  pub receives : Receives shards old frame told new
  pub comes : came ≡ was_received told

-- A call that a route makes of the hub: the step of its sessions, or its own; a refusal by the
-- first cause; or nothing, for want of memory.
abbrev pub RoutedByHub : ℕ → AtHub → Routed → AtHub → Type 0
RoutedByHub shards old (informed session info came) new =
    let event = of_sessions.OnInfo session info (seen_name old.side info.server_name) in
    IsAnswered (session_refusal old.side.server old.side.sessions event)
    (λ answer.
    (kept : Option ℕ)
    × at_hub.Does old (BySessions event) (OfSessions (of_sessions.KeptAfterInfo kept answer)) new)
    (new ≡ old) came
RoutedByHub shards old (connected session connect came) new =
    let event = of_sessions.OnConnect session connect (seen_name old.side connect.server_name) in
    IsAnswered (session_refusal old.side.server old.side.sessions event)
    (λ _.
    (kept : Option ℕ) × at_hub.Does old (BySessions event) (OfSessions (of_sessions.Kept kept)) new)
    (new ≡ old) came
RoutedByHub shards old (received frame came) new = ReceivesSo shards old frame came new
RoutedByHub shards old (was_cut session) new =
    (came : Result (Option ℕ) SessionFault)
    × IsDecided (session_refusal old.side.server old.side.sessions (of_sessions.Cut session))
    (λ peer.
    at_hub.Does old (BySessions (of_sessions.Cut session)) (OfSessions (of_sessions.WasCut peer))
    new)
    (new ≡ old) came
RoutedByHub shards old (took peer count frames) new =
    at_hub.Does old (ByHub (of_hub.TakeFrom peer count)) (OfHub (of_hub.Taken frames)) new
    ⊎ ((frames ≡ []) × (new ≡ old))

-- ---- a shard and the hub

-- what a collect comes to: nothing is told of one that is refused
abbrev pub ComesTo : Result CollectResult (Failure HubFault)
    → Result (Option CollectResult) AllocError
    → Type 0
ComesTo (Ok told) came = came ≡ Ok (Some told)
ComesTo (Err (Refused fault)) came = came ≡ Ok None
ComesTo (Err OutOfMemory) came = (lack : AllocError) × (came ≡ Err lack)

-- What a shard has opened and closed is counted by the hub, where there is any.
abbrev pub CollectsAll : AtHub → AtWork → Result (Option CollectResult) AllocError → AtHub → AtWork
    → Type 0
CollectsAll hub shard came new left =
    ((shard.state.deltas ≡ []) × (came ≡ Ok None) × (new ≡ hub) × (left ≡ shard))
    ⊎ ((told : Result CollectResult (Failure HubFault)) × Collects hub shard told new left
    × ComesTo told came)

-- While the shard of this number was held, nothing was opened or closed there that the hub had not
-- counted.
pub record IsCounted (number : ℕ) : Type 0 where
  pub shard : AtWork
  pub is : shard.part.shard ≡ number
  pub none : shard.state.deltas ≡ []

-- While the hub and the shard of this number were held.
pub record WasCollected (number : ℕ) (came : Result (Option CollectResult) AllocError) :
    Type 0 where
  pub hub : AtHub
  pub shard : AtWork
  pub new : AtHub
  pub left : AtWork
  pub is : shard.part.shard ≡ number
  pub collects : CollectsAll hub shard came new left
