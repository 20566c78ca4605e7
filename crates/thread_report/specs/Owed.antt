-- What the passes of callers have to tell of what was written down under the locks.
use Rattle.std.specs.Prelude.{◌≡◌, ◌<◌, ℕ, suc, All, length, take, slice_index_or, flat_map, Bool, true, false, cond, List, [], ◌∷◌, ◌++◌, Option, None, Some, Result, Ok, Err}
use Rattle.std.specs.Option.{option_map}
use Rattle.std.specs.List.Sorted.{IsPermutation}
use Rattle.subj.specs.Servers.{ServerIdentity}
use Rattle.subj.specs.declared.failures.Failure.{Failure}
use Rattle.subj.specs.declared.failures.Failure.TheVariants.{Refused, OutOfMemory}
use Rattle.hub_core.specs.declared.faults.HubFault.{HubFault}
use Rattle.route_session.specs.declared.faults.SessionFault.{SessionFault}
use Rattle.shard_core.specs.declared.faults.ShardFault.{ShardFault}
use Rattle.shard_core.specs.Shards.{State, new_shard}
use Rattle.node_law.specs.declared.events.NodeEvent.{NodeEvent}
use Rattle.node_law.specs.declared.faults.NodeFault.{NodeFault}
use Rattle.node_law.specs.declared.faults.NodeFault.TheVariants as fault
use Rattle.node_parts.specs.Sides.{HubWithSessions, new_side}
use Rattle.node_threads.specs.declared.shard_entries.ShardEntry.{ShardEntry}
use Rattle.node_threads.specs.declared.shard_entries.ShardTold.{ShardTold}
use Rattle.node_threads.specs.declared.shard_entries.ShardTold.TheVariants as shard_told
use Rattle.thread_report.specs.ShardAnswers.{ShardLists, lists_at, no_lists, state_behind}
use Rattle.thread_report.specs.Events.{event_of_hub, event_of_shard}
use Rattle.thread_report.specs.HubAnswers as of_hub
use Rattle.thread_report.specs.HubAnswers.{HubLists}
use Rattle.thread_node.specs.Told.{refused_in, told_in, told_of_hub, told_of_sessions}
use Rattle.thread_node.specs.declared.hub_entries.HubEntry.{HubEntry}
use Rattle.thread_node.specs.declared.hub_entries.HubTold.{HubTold}
use Rattle.thread_node.specs.declared.hub_entries.HubTold.TheVariants as hub_told
use Rattle.thread_report.specs.declared.passes.Call.{Call}
use Rattle.thread_report.specs.declared.passes.CallAnswer.{CallAnswer}
use Rattle.thread_report.specs.declared.passes.CallAnswer.TheVariants.{Hub, Shard}

-- under the hub's lock, which is 0, or that of the shard of this number
abbrev pub call : ℕ → ℕ → NodeEvent → CallAnswer → Call
call lock place event told = record { lock = lock; place = place; event = event; told = told }

-- the calls of a caller, in order, and how many more it has room for
pub record PassCalls : Type 0 where
  pub calls : List Call
  pub room : ℕ

-- where steps are written down, a pass gains this call, at some place among the entries under its
-- lock
abbrev pub GainsOne : Bool → ℕ → NodeEvent → CallAnswer → List Call → List Call → Type 0
GainsOne true lock event told old new = (place : ℕ) × (new ≡ old ++ call lock place event told ∷ [])
GainsOne false lock event told old new = new ≡ old

-- or none, where there is nothing to tell
abbrev pub Gains : Bool → ℕ → NodeEvent → Option CallAnswer → List Call → List Call → Type 0
Gains keep lock event None old new = new ≡ old
Gains keep lock event (Some told) old new = GainsOne keep lock event told old new

-- What a caller has to tell of what it was answered: the answer, or why it was refused. For want of
-- memory nothing was done, and for a shard that is not there no lock was taken.

-- an answer without lists, of a shard or of the hub and the sessions
abbrev pub plain : ShardTold → CallAnswer
plain told = Shard told no_lists

abbrev pub plain_of_hub : HubTold → CallAnswer
plain_of_hub told = Hub told of_hub.no_lists

-- the lists that a pass keeps of an answer, for its caller to see
abbrev pub lists_kept : CallAnswer → Option ShardLists
lists_kept (Hub told lists) = None
lists_kept (Shard told lists) = Some lists

abbrev pub hub_lists_kept : CallAnswer → Option HubLists
hub_lists_kept (Hub told lists) = Some lists
hub_lists_kept (Shard told lists) = None

-- Of what was answered the pass keeps this, and its caller is told the rest; of a refusal, and
-- where there was no memory, it keeps nothing.
abbrev pub IsParted : {V A X F : Type 0}
    → (V → A)
    → (V → X)
    → A
    → Result V F
    → A
    → Result X F
    → Type 0
IsParted kept rest nothing (Ok v) list result = (list ≡ kept v) × (result ≡ Ok (rest v))
IsParted kept rest nothing (Err failure) list result = (list ≡ nothing) × (result ≡ Err failure)

-- of a call that fails so
abbrev pub by_call : {X F : Type 0}
    → (F → Option CallAnswer)
    → (X → CallAnswer)
    → Result X F
    → Option CallAnswer
by_call failed told (Ok x) = Some (told x)
by_call failed told (Err failure) = failed failure

-- of the hub
abbrev pub by_hub : {X : Type 0} → (X → HubTold) → Result X (Failure HubFault) → Option CallAnswer
by_hub told result = option_map (λ t. plain_of_hub t) (told_of_hub told result)

abbrev pub failed_by_hub : Failure HubFault → Option CallAnswer
failed_by_hub failure =
    refused_in (λ why. plain_of_hub (hub_told.Refused (fault.Hub why))) failure

-- of the sessions
abbrev pub by_sessions : {X : Type 0}
    → (X → HubTold)
    → Result X (Failure SessionFault)
    → Option CallAnswer
by_sessions told result = option_map (λ t. plain_of_hub t) (told_of_sessions told result)

-- of the server: a shard, or the hub with a shard
abbrev pub refused_by : NodeFault → Option CallAnswer
refused_by fault.NoShard = None
refused_by (fault.Shard why) = Some (plain (shard_told.Refused why))
refused_by (fault.Hub why) = Some (plain_of_hub (hub_told.Refused (fault.Hub why)))
refused_by (fault.Session why) = Some (plain_of_hub (hub_told.Refused (fault.Session why)))

abbrev pub failed_by : Failure NodeFault → Option CallAnswer
failed_by (Refused why) = refused_by why
failed_by OutOfMemory = None

abbrev pub by_server : {X : Type 0}
    → (X → CallAnswer)
    → Result X (Failure NodeFault)
    → Option CallAnswer
by_server told result = by_call failed_by told result

-- of a shard, by what it came to under its lock
abbrev pub by_shard : {X : Type 0}
    → (X → CallAnswer)
    → Result X (Failure ShardFault)
    → Option CallAnswer
by_shard told result = told_in (λ why. plain (shard_told.Refused why)) told result

-- a pass gains the answer of a call that gives a list, or more than one: it keeps that, and its
-- caller sees it there
abbrev pub GainsList : (A : Type 0) {X F : Type 0}
    → Bool
    → ℕ
    → NodeEvent
    → (F → Option CallAnswer)
    → (X → A → CallAnswer)
    → Result X F
    → List Call
    → List Call
    → Type 0
GainsList A keep lock event failed told (Ok x) old new =
    (list : A) × GainsOne keep lock event (told x list) old new
GainsList A keep lock event failed told (Err failure) old new =
    Gains keep lock event (failed failure) old new

-- ---- what is owed: what was asked, and what was answered, if only a refusal

-- in this state of the hub and the sessions
abbrev pub call_of_hub : ℕ → HubWithSessions → HubEntry → Call
call_of_hub place s entry =
    call 0 place (event_of_hub entry.event) (Hub entry.told (of_hub.lists_at s entry))

-- in this state of the shard
abbrev pub call_of_shard : ℕ → ℕ → State → ShardEntry → Call
call_of_shard shard place s entry =
    call shard place (event_of_shard shard entry.event) (Shard entry.told (lists_at s entry))

-- of what the hub did, from this place and this state on
abbrev pub owed_by_hub : ℕ → HubWithSessions → List HubEntry → List Call
owed_by_hub place s [] = []
owed_by_hub place s (entry ∷ tape) =
    call_of_hub place s entry ∷ owed_by_hub (suc place) (of_hub.state_behind s entry) tape

-- nobody is told of the parts of a turn; and of a collect the hub's caller is
abbrev pub is_told : ShardTold → Bool
is_told (shard_told.Attached conn) = true
is_told (shard_told.Opened sub) = true
is_told shard_told.AlreadyOpen = true
is_told (shard_told.Unsubscribed ended) = true
is_told (shard_told.Replied shut ended) = true
is_told shard_told.HeadersSet = true
is_told (shard_told.WasShut ended) = true
is_told (shard_told.Detached ended) = true
is_told (shard_told.Taken entries) = true
is_told shard_told.Work = false
is_told (shard_told.Dropped turn) = true
is_told shard_told.Drained = true
is_told (shard_told.Refused why) = true

abbrev pub owed_one : ℕ → ℕ → State → ShardEntry → List Call
owed_one shard place s entry =
    cond (is_told entry.told) (call_of_shard shard place s entry ∷ []) []

-- of what one shard did, from this place and this state on
abbrev pub owed_by_shard : ℕ → ℕ → State → List ShardEntry → List Call
owed_by_shard shard place s [] = []
owed_by_shard shard place s (entry ∷ tape) =
    owed_one shard place s entry ++ owed_by_shard shard (suc place) (state_behind s entry) tape

-- of what all shards did since their start, from this one on, of so many
abbrev pub owed_by_shards : ℕ → ℕ → List (List ShardEntry) → List Call
owed_by_shards shards shard [] = []
owed_by_shards shards shard (tape ∷ tapes) =
    owed_by_shard shard 0 (new_shard shard shards) tape
    ++ owed_by_shards shards (suc shard) tapes

-- of what this server did
abbrev pub calls_owed : ServerIdentity → List HubEntry → List (List ShardEntry) → List Call
calls_owed server hub shards =
    owed_by_hub 0 (new_side server) hub ++ owed_by_shards (length shards) 1 shards

-- ---- what is told

-- under one lock, the first of two calls stands before the second
abbrev pub Precedes : Call → Call → Type 0
Precedes a b = a.lock ≡ b.lock → a.place < b.place

-- the calls under each lock stand in the order in which they were made
abbrev pub IsInOrder : List Call → Type 0
IsInOrder calls =
    (j : ℕ) (d : Call)
    → j < length calls
    → All (λ c. Precedes c (slice_index_or calls j d)) (take j calls)

-- the passes tell each step of this server that a caller made, and each refusal, once, and nothing
-- else, those of one caller in order
pub record AreTold (server : ServerIdentity) (passes : List PassCalls) (hub : List HubEntry)
    (shards : List (List ShardEntry)) : Type 0 where
  pub in_order : All (λ pass. IsInOrder pass.calls) passes
  pub once : IsPermutation (flat_map (λ pass. pass.calls) passes) (calls_owed server hub shards)
