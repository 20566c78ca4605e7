-- What is written down of a call: its answer, or why it was refused. For want of memory nothing was
-- done.
use Rattle.std.specs.Prelude.{◌≡◌, List, [], ◌∷◌, Option, None, Some, Result, Ok, Err}
use Rattle.subj.specs.declared.failures.Failure.{Failure}
use Rattle.subj.specs.declared.failures.Failure.TheVariants.{Refused, OutOfMemory}
use Rattle.subj.specs.declared.keys.Delta.{Delta}
use Rattle.hub_core.specs.declared.faults.HubFault.{HubFault}
use Rattle.route_session.specs.declared.faults.SessionFault.{SessionFault}
use Rattle.shard_core.specs.declared.faults.ShardFault.{ShardFault}
use Rattle.node_law.specs.declared.faults.NodeFault.TheVariants.{Hub, Session}
use Rattle.node_threads.specs.Tapes.{Grows, entry}
use Rattle.node_threads.specs.declared.shard_entries.ShardEntry.{ShardEntry}
use Rattle.node_threads.specs.declared.shard_entries.ShardEvent.{ShardEvent}
use Rattle.node_threads.specs.declared.shard_entries.ShardEvent.TheVariants as shard_event
use Rattle.node_threads.specs.declared.shard_entries.ShardTold.{ShardTold}
use Rattle.node_threads.specs.declared.shard_entries.ShardTold.TheVariants as shard_told
use Rattle.thread_node.specs.HubTapes.{hub_entry}
use Rattle.thread_node.specs.declared.hub_entries.HubEntry.{HubEntry}
use Rattle.thread_node.specs.declared.hub_entries.HubEvent.{HubEvent}
use Rattle.thread_node.specs.declared.hub_entries.HubTold.{HubTold}
use Rattle.thread_node.specs.declared.hub_entries.HubTold.TheVariants as hub_told

-- a call that takes no memory, as one that may
abbrev pub of_decision : {X F : Type 0} → Result X F → Result X (Failure F)
of_decision (Ok x) = Ok x
of_decision (Err fault) = Err (Refused fault)

abbrev pub refused_in : {F T : Type 0} → (F → T) → Failure F → Option T
refused_in refused (Refused fault) = Some (refused fault)
refused_in refused OutOfMemory = None

abbrev pub told_in : {X F T : Type 0} → (F → T) → (X → T) → Result X (Failure F) → Option T
told_in refused told (Ok x) = Some (told x)
told_in refused told (Err failure) = refused_in refused failure

-- of a shard
abbrev pub told_of_shard : {X : Type 0}
    → (X → ShardTold)
    → Result X (Failure ShardFault)
    → Option ShardTold
told_of_shard told result = told_in (λ fault. shard_told.Refused fault) told result

-- of the hub
abbrev pub told_of_hub : {X : Type 0} → (X → HubTold) → Result X (Failure HubFault) → Option HubTold
told_of_hub told result = told_in (λ fault. hub_told.Refused (Hub fault)) told result

-- of the sessions
abbrev pub told_of_sessions : {X : Type 0}
    → (X → HubTold)
    → Result X (Failure SessionFault)
    → Option HubTold
told_of_sessions told result = told_in (λ fault. hub_told.Refused (Session fault)) told result

-- ---- the entry that this adds to a tape, where there is one

abbrev pub ShardNotes : ShardEvent
    → Option ShardTold
    → Option (List ShardEntry)
    → Option (List ShardEntry)
    → Type 0
ShardNotes event None tape more = more ≡ tape
ShardNotes event (Some told) tape more = Grows tape (entry event told ∷ []) more

abbrev pub HubNotes : HubEvent → Option HubTold → Option (List HubEntry) → Option (List HubEntry)
    → Type 0
HubNotes event None tape more = more ≡ tape
HubNotes event (Some told) tape more = Grows tape (hub_entry event told ∷ []) more

-- the deltas that a shard gave, where the hub took them
abbrev pub GivenNotes : {X F : Type 0}
    → Result X F
    → List Delta
    → Option (List ShardEntry)
    → Option (List ShardEntry)
    → Type 0
GivenNotes (Ok x) deltas tape more =
    Grows tape (entry (shard_event.Collect deltas) shard_told.Work ∷ []) more
GivenNotes (Err why) deltas tape more = more ≡ tape
