-- The steps of a turn, one by one.
use Rattle.std.proofs.Common.{◌≡◌, ℕ, ◌+◌, ◌≤◌, Bool, true, false, true≢false, cond, nat_eq, List, [], ◌∷◌, ◌++◌, length, Option, Some, None, refl, sym, ap, ◌∙◌, subst, append-nil, length-append, arith}
use Rattle.std.specs.Prelude.{option_to_list, is_some}
use Rattle.std.proofs.lemmas.Option.{none-some, same_Some}
use Rattle.list_laws.proofs.Lists.{each_one}
use Rattle.list_laws.proofs.Tests.{true_eq}
use Rattle.subj.specs.declared.jobs.Job.{Job}
use Rattle.claim_cells.specs.declared.parts.ShardPart.{ShardPart}
use Rattle.claim_cells.specs.Rule.{newcomer}
use Rattle.claim_cells.specs.Seats.{HasTurn}
use Rattle.claim_cells.specs.Steps.{part_after_load}
use Rattle.shard_core.specs.Answers.{IsHandedBack}
use Rattle.shard_core.specs.ShardEvents.{Event, Begin}
use Rattle.shard_core.specs.ShardSteps.{IsAsked, shard_refusal, shard_answer, shard_after}
use Rattle.shard_core.specs.Shards.{State, new_shard}
use Rattle.subj.specs.declared.failures.Failure.{Failure}
use Rattle.subj.specs.declared.failures.Failure.TheVariants.{Refused, OutOfMemory}
use Rattle.shard_core.specs.declared.faults.ShardFault.{ShardFault}
use Rattle.shard_core.specs.declared.faults.ShardFault.TheVariants.{JobInHand, WrongTurn}
use Rattle.node_law.specs.Sound.{tried_of}
use Rattle.node_threads.specs.AtWork.{AtWork, Makes, IsAtWork, HasDone, at_start, one_if, seen_as}
use Rattle.node_threads.specs.Steps.{Done, Leads}
use Rattle.node_threads.specs.Turns.{is_work, HasWorked}
use Rattle.node_threads.proofs.Shards.Joining.{makes_join}

abbrev pub step_of : State → Event → Done
step_of s e = record { before = s; event = e; answer = shard_answer s e }

pub done_join : (shards : ℕ) (w new : AtWork) (steps : List Done)
    → HasDone shards w
    → Makes w steps new
    → HasDone shards new
done_join shards w new steps d m = (
  steps ++ d.0,
  subst (λ s. Makes (at_start s shards) (steps ++ d.0) new) (sym m.shard)
      (makes_join (at_start w.part.shard shards) w new d.0 steps d.1 m),
)

pub led : (s t : State) (e : Event)
    → shard_refusal s e ≡ None
    → IsAsked s e
    → t ≡ shard_after s e
    → Leads s (step_of s e ∷ []) t
led s t e free asked after = (record { cause = free; asked = asked; answered = refl; after = after }, refl)

-- ---- a job is popped

abbrev pub with_popped : AtWork → Job → AtWork
with_popped w job = record w { popped = w.popped ++ job ∷ []; waiting = Some job }

pub popped_makes : (w : AtWork) (job : Job) → w.waiting ≡ None → Makes w [] (with_popped w job)
popped_makes w job none = record {
  got = job ∷ [];
  led = refl;
  popped = refl;
  taken = ap (λ o. option_to_list o ++ job ∷ []) none;
  shard = refl;
  won = sym (append-nil w.part.won);
  lost = sym (append-nil w.part.lost);
}

pub popped_at_work : (shards next_index : ℕ) (w : AtWork) (job : Job)
    → IsAtWork shards next_index w
    → w.state.hand ≡ None
    → w.waiting ≡ None
    → job.turn ≡ length (w.popped ++ job ∷ [])
    → IsAtWork shards next_index (with_popped w job)
popped_at_work shards next_index w job i free none turn =
    let long = length-append w.popped (job ∷ []) in
    let count : length w.popped ≡ w.state.finished =
    i.count ∙ (λ k. w.state.finished + one_if (free k) + one_if (none k)) ∙ omega arith in
    record {
      index = i.index;
      finished = i.finished;
      next = i.next;
      hand = i.hand;
      waits = λ j e. record {
        turn =
            subst (λ (x : Job). x.turn ≡ w.state.finished + 1) (same_Some job j e)
            (turn ∙ long ∙ ap (λ n. n + 1) count);
        alone = free;
      };
      count = long ∙ ap (λ n. n + 1) count ∙ more ∙ (λ k. w.state.finished + one_if (sym free k) + 1);
      done = done_join shards w (with_popped w job) [] i.done (popped_makes w job none);
    }
  where
    more : w.state.finished + 1 ≡ w.state.finished + 0 + 1
    more = omega arith

pub pops : (state : State) (part : ShardPart) (popped popped' : List Job) (hand hand' : Option Job) (waits : Bool)
    (job : Job)
    → waits ≡ false
    → popped' ≡ popped ++ job ∷ []
    → hand' ≡ Some job
    → Makes (seen_as state part popped hand waits) [] (seen_as state part popped' hand' true)
pops state part popped popped' hand hand' waits job none more one = record {
  got = job ∷ [];
  led = refl;
  popped = more;
  taken = (λ k. option_to_list (cond (none k) hand None) ++ job ∷ []) ∙ ap option_to_list (sym one);
  shard = refl;
  won = sym (append-nil part.won);
  lost = sym (append-nil part.lost);
}

-- the job in hand of the lane is the one that waits
pub waits_for : (waits : Bool) (hand : Option Job) (job job' : Job)
    → is_some (cond waits hand None) ≡ true
    → hand ≡ Some job'
    → job ≡ job'
    → cond waits hand None ≡ Some job
waits_for true hand job job' some is same = is ∙ ap (λ j. Some j) (sym same)
waits_for false hand job job' some is same = absurd (true≢false (sym some))

-- a job that comes back leaves all as it was
pub handed_back : (cause : Option ShardFault) (job back : Job) (same : Type 0) (failure : Failure ShardFault)
    → IsHandedBack cause job same back failure
    → same
handed_back cause job back same (Refused why) h = h.2
handed_back cause job back same OutOfMemory h = h.2

-- ---- the last turn issued is looked at

abbrev pub with_part : AtWork → ShardPart → AtWork
with_part w part = record w { part = part }

pub seen_makes : (w : AtWork) (n : ℕ) → Makes w [] (with_part w (part_after_load w.part n))
seen_makes w n = record {
  got = [];
  led = refl;
  popped = sym (append-nil w.popped);
  taken = append-nil (option_to_list w.waiting);
  shard = refl;
  won = sym (append-nil w.part.won);
  lost = sym (append-nil w.part.lost);
}

pub seen_at_work : (shards next_index n : ℕ) (w : AtWork)
    → IsAtWork shards next_index w
    → w.state.hand ≡ None
    → IsAtWork shards next_index (with_part w (part_after_load w.part n))
seen_at_work shards next_index n w i free = record {
  index = i.index;
  finished = i.finished;
  next = i.next;
  hand = λ job h. absurd (none-some job (sym free ∙ h));
  waits = i.waits;
  count = i.count;
  done = done_join shards w (with_part w (part_after_load w.part n)) [] i.done (seen_makes w n);
}

-- ---- a job is begun

abbrev pub with_begun : AtWork → Job → AtWork
with_begun w job = record w { state = shard_after w.state (Begin job); waiting = None }

pub begun_makes : (w : AtWork) (job : Job)
    → w.waiting ≡ Some job
    → shard_refusal w.state (Begin job) ≡ None
    → Makes w (step_of w.state (Begin job) ∷ []) (with_begun w job)
begun_makes w job waits free = record {
  got = [];
  led = led w.state (shard_after w.state (Begin job)) (Begin job) free tt refl;
  popped = sym (append-nil w.popped);
  taken = ap (λ o. option_to_list o ++ []) waits;
  shard = refl;
  won = sym (append-nil w.part.won);
  lost = sym (append-nil w.part.lost);
}

pub begun_works : (w : AtWork) (job : Job)
    → w.waiting ≡ Some job
    → shard_refusal w.state (Begin job) ≡ None
    → HasWorked w (with_begun w job)
begun_works w job waits free = (
  step_of w.state (Begin job) ∷ [],
  record {
    makes = begun_makes w job waits free;
    work = each_one (λ d. is_work d.event ≡ true) (step_of w.state (Begin job)) refl;
  },
)

pub begun_at_work : (shards next_index : ℕ) (w : AtWork) (job : Job)
    → IsAtWork shards next_index w
    → w.waiting ≡ Some job
    → HasTurn w.part
    → shard_refusal w.state (Begin job) ≡ None
    → IsAtWork shards 0 (with_begun w job)
begun_at_work shards next_index w job i waits has free =
    let n = i.waits job waits in
    let low : w.part.next ≤ 0 = subst (λ h. w.part.next ≤ tried_of h w.state.next_index) n.alone i.next in
    record {
      index = refl;
      finished = i.finished;
      next = low;
      hand = λ j e. record {
        turn = ap (λ (x : Job). x.turn) (sym (same_Some job j e)) ∙ n.turn;
        seen = has;
        tried = omega arith;
      };
      waits = λ j e. absurd (none-some j e);
      count = i.count ∙ (λ k. w.state.finished + one_if (n.alone k) + one_if (waits k)) ∙ omega arith;
      done =
          done_join shards w (with_begun w job) (step_of w.state (Begin job) ∷ []) i.done
          (begun_makes w job waits free);
    }

-- why a job that waits is not refused
pub may_begin : (shards next_index : ℕ) (w : AtWork) (job : Job)
    → IsAtWork shards next_index w
    → w.waiting ≡ Some job
    → shard_refusal w.state (Begin job) ≡ None
may_begin shards next_index w job i waits =
    let n = i.waits job waits in
    subst (λ h.
    cond (is_some h) (Some JobInHand) (cond (nat_eq job.turn (w.state.finished + 1)) None (Some WrongTurn)) ≡ None)
    (sym n.alone) (ap (λ b. cond b None (Some WrongTurn)) (true_eq job.turn (w.state.finished + 1) n.turn))

-- ---- the start

pub starts_at_work : (shards : ℕ) (state : State) (part : ShardPart) (popped : List Job) (hand : Option Job)
    → state ≡ new_shard part.shard shards
    → part ≡ newcomer part.shard
    → popped ≡ []
    → IsAtWork shards 0 (seen_as state part popped hand false)
starts_at_work shards state part popped hand s p l =
    subst (λ (w : AtWork). IsAtWork shards 0 w) (λ k. seen_as (sym s k) (sym p k) (sym l k) hand false)
    (start part.shard)
  where
    start : (shard : ℕ) → IsAtWork shards 0 (at_start shard shards)
    start shard = record {
      index = refl;
      finished = refl;
      next = omega arith;
      hand = λ job h. absurd (none-some job h);
      waits = λ job h. absurd (none-some job h);
      count = refl;
      done = ([], record { got = []; led = refl; popped = refl; taken = refl; shard = refl; won = refl; lost = refl });
    }
