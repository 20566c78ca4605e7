-- What a pass gains of a call.
use Rattle.std.proofs.Common.{◌≡◌, ℕ, Bool, List, Option, Some, Result, Ok, Err, refl, sym, ap, ◌∙◌, subst}
use Rattle.std.specs.Option.{option_map}
use Rattle.subj.specs.declared.failures.Failure.{Failure}
use Rattle.subj.specs.declared.failures.Failure.TheVariants.{Refused, OutOfMemory}
use Rattle.hub_core.specs.declared.faults.HubFault.{HubFault}
use Rattle.shard_core.specs.declared.faults.ShardFault.{ShardFault}
use Rattle.node_law.specs.declared.events.NodeEvent.{NodeEvent}
use Rattle.node_law.specs.declared.faults.NodeFault.{NodeFault}
use Rattle.node_law.specs.declared.faults.NodeFault.TheVariants as fault
use Rattle.node_threads.specs.declared.shard_entries.ShardTold.{ShardTold}
use Rattle.thread_node.specs.Refusing.{at_server}
use Rattle.thread_node.specs.Told.{told_in, told_of_shard}
use Rattle.thread_node.specs.declared.hub_entries.HubTold.TheVariants as hub_told
use Rattle.thread_report.specs.Owed.{Gains, GainsList, IsParted, by_call, by_server, by_shard, failed_by_hub, plain, plain_of_hub}
use Rattle.thread_report.specs.declared.passes.Call.{Call}
use Rattle.thread_report.specs.declared.passes.CallAnswer.{CallAnswer}

-- what is told of a shard's answer is what its server's caller has to tell
pub shard_told : {X : Type 0} (answer : X → ShardTold) (done : Result X (Failure ShardFault))
    → option_map (λ t. plain t) (told_of_shard answer done)
    ≡ by_server (λ x. plain (answer x)) (at_server (λ why. fault.Shard why) done)
shard_told answer (Ok x) = refl
shard_told answer (Err (Refused why)) = refl
shard_told answer (Err OutOfMemory) = refl

-- the same of an answer with lists
pub lists_told : {X : Type 0} (answer : X → CallAnswer) (done : Result X (Failure ShardFault))
    → by_shard answer done ≡ by_server answer (at_server (λ why. fault.Shard why) done)
lists_told answer (Ok x) = refl
lists_told answer (Err (Refused why)) = refl
lists_told answer (Err OutOfMemory) = refl

-- the same of an answer of the hub with lists, by a call of the hub and by one of the server
pub hub_lists_told : {X : Type 0} (answer : X → CallAnswer) (done : Result X (Failure HubFault))
    → told_in (λ why. plain_of_hub (hub_told.Refused (fault.Hub why))) answer done ≡ by_call failed_by_hub answer done
hub_lists_told answer (Ok x) = refl
hub_lists_told answer (Err (Refused why)) = refl
hub_lists_told answer (Err OutOfMemory) = refl

pub server_lists_told : {X : Type 0} (answer : X → CallAnswer) (done : Result X (Failure HubFault))
    → told_in (λ why. plain_of_hub (hub_told.Refused (fault.Hub why))) answer done
    ≡ by_server answer (at_server (λ why. fault.Hub why) done)
server_lists_told answer (Ok x) = refl
server_lists_told answer (Err (Refused why)) = refl
server_lists_told answer (Err OutOfMemory) = refl

-- what is told of an answer of which the pass keeps a part, as what its caller has to tell
pub parted_told : {V A X F T : Type 0} (kept : V → A) (rest : V → X) (nothing : A) (refused : F → T)
    (said : X → A → T) (with : T → A → CallAnswer) (done : Result V (Failure F)) (list : A)
    (result : Result X (Failure F))
    → IsParted kept rest nothing done list result
    → option_map (λ t. with t list) (told_in refused (λ v. said (rest v) (kept v)) done)
    ≡ told_in (λ why. with (refused why) nothing) (λ x. with (said x list) list) result
parted_told kept rest nothing refused said with (Ok v) list result is =
    (λ k. Some (with (said (rest v) (sym is.0 k)) list))
    ∙ ap (told_in (λ why. with (refused why) nothing) (λ x. with (said x list) list)) (sym is.1)
parted_told kept rest nothing refused said with (Err (Refused why)) list result is =
    (λ k. Some (with (refused why) (is.0 k)))
    ∙ ap (told_in (λ why. with (refused why) nothing) (λ x. with (said x list) list)) (sym is.1)
parted_told kept rest nothing refused said with (Err OutOfMemory) list result is =
    ap (told_in (λ why. with (refused why) nothing) (λ x. with (said x list) list)) (sym is.1)

-- a pass that was left as it was before it gained a call
pub gains_from : (keep on : Bool) (lock : ℕ) (e : NodeEvent) (told : Option CallAnswer) (old seen new : List Call)
    → keep ≡ on
    → seen ≡ old
    → Gains keep lock e told seen new
    → Gains on lock e told old new
gains_from keep on lock e told old seen new is same gains =
    subst (λ k. Gains k lock e told old new) is (subst (λ calls. Gains keep lock e told calls new) same gains)

-- the same of a shard's answer
pub shard_gains : {X : Type 0} (keep on : Bool) (shard : ℕ) (e : NodeEvent) (answer : X → ShardTold)
    (result : Result X (Failure NodeFault)) (old seen new : List Call)
    → keep ≡ on
    → seen ≡ old
    → Gains keep shard e (by_server (λ x. plain (answer x)) result) seen new
    → Gains on shard e (by_server (λ x. plain (answer x)) result) old new
shard_gains keep on shard e answer result old seen new is same gains =
    gains_from keep on shard e (by_server (λ x. plain (answer x)) result) old seen new is same gains

-- the same of an answer that gives this
pub list_gains : {A X F : Type 0} (keep on : Bool) (lock : ℕ) (e : NodeEvent) (failed : F → Option CallAnswer)
    (answer : X → A → CallAnswer) (list : A) (result : Result X F) (told : Option CallAnswer)
    (old seen new : List Call)
    → keep ≡ on
    → seen ≡ old
    → told ≡ by_call failed (λ x. answer x list) result
    → Gains keep lock e told seen new
    → GainsList A on lock e failed answer result old new
list_gains keep on lock e failed answer list (Ok x) told old seen new is same says gains = (
  list,
  gains_from keep on lock e (Some (answer x list)) old seen new is same
      (subst (λ t. Gains keep lock e t seen new) says gains),
)
list_gains keep on lock e failed answer list (Err failure) told old seen new is same says gains =
    gains_from keep on lock e (failed failure) old seen new is same
    (subst (λ t. Gains keep lock e t seen new) says gains)

-- a pass that was left as it was before it gained a call that gives a list
pub list_gains_from : {A X F : Type 0} (keep on : Bool) (lock : ℕ) (e : NodeEvent) (failed : F → Option CallAnswer)
    (answer : X → A → CallAnswer) (result : Result X F) (old seen new : List Call)
    → keep ≡ on
    → seen ≡ old
    → GainsList A keep lock e failed answer result seen new
    → GainsList A on lock e failed answer result old new
list_gains_from {A} keep on lock e failed answer result old seen new is same gains =
    subst (λ k. GainsList A k lock e failed answer result old new) is
    (subst (λ calls. GainsList A keep lock e failed answer result calls new) same gains)
