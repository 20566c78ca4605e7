-- What comes of a turn of a shard that is held, of what is taken of it, and of what is asked of the hub.
use Rattle.std.proofs.Common.{◌≡◌, ◌⊎◌, ℕ, List, [], ◌++◌, Option, Result, Ok, Err, refl, sym, ◌∙◌, inl, inr, ap, append-nil}
use Rattle.subj.specs.Answers.{IsAnswered, IsRefused}
use Rattle.subj.specs.declared.failures.Failure.{Failure}
use Rattle.subj.specs.declared.failures.Failure.TheVariants.{Refused, OutOfMemory}
use Rattle.hub_core.specs.Events as of_hub
use Rattle.hub_core.specs.Steps.{hub_refusal}
use Rattle.hub_core.specs.declared.faults.HubFault.{HubFault}
use Rattle.node_parts.specs.Sides.{ByHub, OfHub}
use Rattle.node_threads.specs.AtHub as at_hub
use Rattle.node_threads.specs.AtHub.{AtHub}
use Rattle.outbox.specs.Views.{bytes_of_all}
use Rattle.route_values.specs.Frames.{Frame}
use Rattle.server_calls.specs.Routed.{taken_of}
use Rattle.shard_core.specs.declared.faults.ShardFault.{ShardFault}
use Rattle.shard_core.specs.ShardEvents.{Take}
use Rattle.shard_core.specs.ShardSteps.{shard_refusal}
use Rattle.node_threads.specs.AtWork.{AtWork, TakesBytes}
use Rattle.node_threads.specs.Turns.{Turns}
use Rattle.node_threads.specs.declared.turned.Turned.{Turned}
use Rattle.node_threads.specs.declared.turned.Turned.TheVariants.{Idle, Worked, WorkedRun, Short}
use Rattle.thread_node.specs.Held.{Takes}

refused_same : {R : Type 0} (cause : Option R) (same : Type 0) (why : Failure R) → IsRefused cause same why → same
refused_same cause same (Refused fault) h = h.1
refused_same cause same OutOfMemory h = h.1

-- a turn is of one shard
pub turns_shard : (old : AtWork) (told : Turned) (new : AtWork)
    → Turns old told new
    → new.part.shard ≡ old.part.shard
turns_shard old Idle new t = t.0.shard
turns_shard old (Worked turn) new t = t.makes.shard
turns_shard old (WorkedRun jobs last) new t = t.makes.shard
turns_shard old Short new t = t.1.makes.shard

-- what a take has put behind the bytes that were there
pub takes_so : (old : AtWork) (conn count : ℕ) (before after : List ℕ)
    (done : Result ℕ (Failure ShardFault)) (new : AtWork)
    → IsAnswered (shard_refusal old.state (Take conn count)) (λ taken. TakesBytes old conn count taken before after new)
    ((new ≡ old) × (after ≡ before)) done
    → (bytes : List ℕ) × (after ≡ before ++ bytes) × Takes old conn count bytes new
takes_so old conn count before after (Ok taken) new is =
    let took : TakesBytes old conn count taken before after new = is.1 in
    (bytes_of_all took.entries, took.bytes_are, inl (record { entries = took.entries; does = took.does; are = refl }))
takes_so old conn count before after (Err why) new is =
    let same : (new ≡ old) × (after ≡ before) =
    refused_same (shard_refusal old.state (Take conn count)) ((new ≡ old) × (after ≡ before)) why is
    in
    ([], same.1 ∙ sym (append-nil before), inr (refl, same.0))

-- a take leaves a shard what it is
pub takes_shard : (old : AtWork) (conn count : ℕ) (before after : List ℕ)
    (done : Result ℕ (Failure ShardFault)) (new : AtWork)
    → IsAnswered (shard_refusal old.state (Take conn count)) (λ taken. TakesBytes old conn count taken before after new)
    ((new ≡ old) × (after ≡ before)) done
    → new.part.shard ≡ old.part.shard
takes_shard old conn count before after (Ok taken) new is =
    let took : TakesBytes old conn count taken before after new = is.1 in
    ap (λ (w : AtWork). w.part.shard) took.does.after
takes_shard old conn count before after (Err why) new is =
    let same : (new ≡ old) × (after ≡ before) =
    refused_same (shard_refusal old.state (Take conn count)) ((new ≡ old) × (after ≡ before)) why is
    in
    ap (λ (w : AtWork). w.part.shard) same.0

-- the frames that were taken, or none
pub frames_so : {X : Type 0} (old : AtHub) (items : X → List Frame) (peer count : ℕ)
    (done : Result X (Failure HubFault)) (new : AtHub)
    → IsAnswered (hub_refusal old.side.server old.side.hub (of_hub.TakeFrom peer count))
    (λ frames. at_hub.Does old (ByHub (of_hub.TakeFrom peer count)) (OfHub (of_hub.Taken (items frames))) new)
    (new ≡ old) done
    → at_hub.Does old (ByHub (of_hub.TakeFrom peer count)) (OfHub (of_hub.Taken (taken_of items done))) new
    ⊎ ((taken_of items done ≡ []) × (new ≡ old))
frames_so old items peer count (Ok frames) new is = inl is.1
frames_so old items peer count (Err why) new is =
    inr (refl, refused_same (hub_refusal old.side.server old.side.hub (of_hub.TakeFrom peer count)) (new ≡ old) why is)
