-- What a call of a shard answers, as what it has done.
use Rattle.std.proofs.Common.{◌≡◌, ℕ, Bool, false, List, None, Result, Ok, Err, refl, sym, ap, ◌∙◌, subst}
use Rattle.subj.specs.Answers.{IsAnswered, IsRefused}
use Rattle.subj.specs.declared.keys.Key.{Key}
use Rattle.subj.specs.declared.failures.Failure.{Failure}
use Rattle.subj.specs.declared.failures.Failure.TheVariants.{Refused, OutOfMemory}
use Rattle.client_calls.specs.Calls.{attached}
use Rattle.client_calls.specs.declared.outcome.Outcome.{Outcome}
use Rattle.shard_core.specs.Answers.{answer_of}
use Rattle.shard_core.specs.declared.calls.Subscribed.{Subscribed}
use Rattle.shard_core.specs.declared.calls.Subscribed.TheVariants.{New, Same}
use Rattle.shard_core.specs.declared.faults.ShardFault.{ShardFault}
use Rattle.shard_core.specs.ShardEvents.{Event, Attach, Subscribe, Answer}
use Rattle.shard_core.specs.ShardSteps.{shard_refusal}
use Rattle.node_threads.specs.AtWork.{AtWork, Does}
use Rattle.thread_node.specs.Held.{came_to, not_attached, shuts, Makes, Steps, MadeByShard}

makes : (old : AtWork) (event : Event) (answer : Answer) (shut : Bool) (new : AtWork)
    → shard_refusal old.state event ≡ None
    → Does old event answer new
    → shuts answer ≡ shut
    → Makes old event shut new
makes old event answer shut new free does is = record {
  free = free;
  does = record { answered = refl; after = does.after };
  shuts = sym (ap shuts does.answered) ∙ is;
}

pub steps_so : {X : Type 0} (old : AtWork) (event : Event) (answer : X → Answer) (done : Result X (Failure ShardFault))
    (new : AtWork)
    → ((x : X) → shuts (answer x) ≡ false)
    → IsAnswered (shard_refusal old.state event) (λ x. Does old event (answer x) new) (new ≡ old) done
    → Steps old event (came_to done) new
steps_so old event answer (Ok x) new quiet is = makes old event (answer x) false new is.0 is.1 (quiet x)
steps_so old event answer (Err (Refused fault)) new quiet is = (fault, refl, record { cause = is.0; same = is.1 })
steps_so old event answer (Err OutOfMemory) new quiet is = is.1

-- a subscription is opened by what was copied
pub subscribes_so : (old : AtWork) (conn : ℕ) (key copy : Key) (sid text : List ℕ)
    (done : Result Subscribed (Failure ShardFault)) (came : Outcome) (new : AtWork)
    → copy ≡ key
    → text ≡ sid
    → came ≡ came_to done
    → IsAnswered (shard_refusal old.state (Subscribe conn copy text))
    (λ x. Does old (Subscribe conn copy text) (answer_of x) new) (new ≡ old) done
    → Steps old (Subscribe conn key sid) came new
subscribes_so old conn key copy sid text done came new same_key same_sid is answered =
    subst (λ k. Steps old (Subscribe conn k sid) came new) same_key
    (subst (λ t. Steps old (Subscribe conn copy t) came new) same_sid
    (subst (λ o. Steps old (Subscribe conn copy text) o new) (sym is)
    (steps_so old (Subscribe conn copy text) answer_of done new quiet answered))) where
      quiet : (x : Subscribed) → shuts (answer_of x) ≡ false
      quiet (New sub) = refl
      quiet Same = refl

-- no connection is attached
pub attaches_none : (old : AtWork) (fault : Failure ShardFault) (new : AtWork)
    → IsRefused (shard_refusal old.state Attach) (new ≡ old) fault
    → MadeByShard old (attached (Err (not_attached fault))) new
attaches_none old (Refused fault) new is = (fault, refl, record { cause = is.0; same = is.1 })
attaches_none old OutOfMemory new is = is.1
