-- The next turn is issued.
use Rattle.std.proofs.Common.{◌≡◌, ℕ, zero, suc, ◌+◌, ◌-◌, ◌<◌, true, false, nat_eq, nat_le, nat_lt, ◌||◌, cond, List, [], ◌∷◌, ◌++◌, length, get_or, Some, None, Ok, refl, sym, ap, ◌∙◌, subst, length-append, arith}
use Rattle.std.specs.Prelude.{slice_get, unwrap_or, if◌then◌else◌}
use Rattle.std.proofs.lemmas.Bool.Decides.{nat_tests}
use Rattle.std.proofs.lemmas.Option.{slice_get-get_or}
use Rattle.list_laws.proofs.Lists.{each_append, each_one}
use Rattle.list_laws.proofs.Tests.{no_cause, or_false, le_false}
use Rattle.subj.specs.Numbers.{finished_turn}
use Rattle.subj.specs.QueueNames.{are_queue_names}
use Rattle.subj.specs.Servers.{IsListed}
use Rattle.subj.specs.declared.jobs.Job.{Job}
use Rattle.subj.specs.declared.limits.TheConstants.{MAX_COUNTER, MAX_QUEUE_NAMES}
use Rattle.claim_cells.specs.declared.parts.HubPart.{HubPart}
use Rattle.claim_cells.specs.Rule.{At}
use Rattle.claim_cells.specs.Steps.{loads_from}
use Rattle.claim_cells.specs.Calls.{AreLoads, ShowsRoom, IsIssuedOrBusy}
use Rattle.hub_core.specs.Events as of_hub
use Rattle.hub_core.specs.Chosen.{IsPlanOf}
use Rattle.hub_core.specs.Calls.{after_frames}
use Rattle.hub_core.specs.Publishing.{Publication, busy_fault, names_of, publish_fault, publish_refusal, own_job, frames_of}
use Rattle.hub_core.specs.declared.faults.HubFault.TheVariants.{Spent, TooManyQueues}
use Rattle.hub_core.proofs.Steps.Rooms.{or_none, has_room}
use Rattle.route_values.specs.Frames.{Frame}
use Rattle.node_parts.specs.Sides.{HubWithSessions, Event, ByHub, Answer, OfHub, IsDone, job_in}
use Rattle.node_threads.specs.AtHub.{AtHub, hub_at, Issues, IsAtHub}
use Rattle.node_threads.proofs.Hubs.HubCalls.{done_more, same_server}

-- ---- loads

at_longer : {A : Type 0} (l m : List A) (i : ℕ) (a : A) → At l i a → At (l ++ m) i a
at_longer [] m i a e = absurd (cc (e))
at_longer (x ∷ xs) m zero a e = e
at_longer (x ∷ xs) m (suc i) a e = at_longer xs m i a e

-- the loads stay, whatever is loaded behind them
pub loads_stay : (shards : ℕ) (h : HubPart) (more : List (ℕ × ℕ)) (issued : ℕ) (turns : List ℕ)
    → AreLoads shards h turns
    → AreLoads shards (record { issued = issued; loads = h.loads ++ more }) turns
loads_stay shards h more issued turns all s low =
    let there = all s low in (there.0, at_longer h.loads more there.0 (s + 1, finished_turn turns (s + 1)) there.1)

-- the last finished turn of a shard that there can be
pub turn_at : (turns : List ℕ) (s : ℕ) → s < length turns → slice_get turns s ≡ Some (finished_turn turns (s + 1))
turn_at turns s low = at ∙ ap Some (sym (same ∙ ap (λ o. unwrap_or o 0) at))
  where
    at : slice_get turns s ≡ Some (get_or turns s 0)
    at = slice_get-get_or turns s 0 low

    first : nat_eq (s + 1) 0 ≡ false
    first = grind (arith, nat_tests)

    back : s + 1 - 1 ≡ s
    back = omega arith

    same : finished_turn turns (s + 1) ≡ unwrap_or (slice_get turns s) 0
    same = λ k. cond (first k) 0 (unwrap_or (slice_get turns (back k)) 0)

-- where no shard is a window behind, one more turn is issued
pub shows_room : (shards : ℕ) (w : AtHub)
    → IsAtHub shards w
    → busy_fault w.side.server w.side.hub w.finished ≡ None
    → ShowsRoom shards w.part
shows_room shards w i free s low =
    let turns = i.turns in
    let few = i.few in
    let own = i.own in
    let places = i.places in
    let near = has_room w.side.server w.side.hub w.finished free s (finished_turn w.finished (s + 1)) (omega arith)
    (turn_at w.finished s (omega arith)) in
    (finished_turn w.finished (s + 1), i.loads s low, omega arith)

-- a publish that is not refused
pub record MayIssue (shards : ℕ) (w : AtHub) : Type 0 where
  pub limit : w.part.issued < MAX_COUNTER
  pub room : ShowsRoom shards w.part

pub may_publish : (shards : ℕ) (w : AtHub) (p : Publication)
    → IsAtHub shards w
    → publish_refusal w.side.server w.side.hub p w.finished ≡ None
    → MayIssue shards w
may_publish shards w p i free =
    let hub = w.side.hub in
    let o = or_none (busy_fault w.side.server hub w.finished) (publish_fault w.side.server hub p) free in
    let spent = no_cause (nat_le MAX_COUNTER hub.published || nat_le MAX_COUNTER hub.issued) Spent
    (if nat_lt MAX_QUEUE_NAMES (length (names_of w.side.server hub p)) then Some TooManyQueues else None) o.1 in
    let low = le_false MAX_COUNTER hub.issued
    (or_false (nat_le MAX_COUNTER hub.published) (nat_le MAX_COUNTER hub.issued) spent.0).1 in
    let same = i.turns in
    record { limit = omega arith; room = shows_room shards w i o.0 }

-- ---- the turn is issued

pub record HasIssued (old new : HubPart) : Type 0 where
  pub more : List (ℕ × ℕ)
  pub is : new ≡ record { issued = old.issued + 1; loads = old.loads ++ more }

pub has_issued : (shards : ℕ) (old new : HubPart) (turn : ℕ)
    → IsIssuedOrBusy shards old (Ok turn) new
    → HasIssued old new
has_issued shards old new turn t = record { more = loads_from 1 t.0; is = t.2.1.1 }

-- what is given to the shards with it
pub issues : (shards : ℕ) (w : AtHub) (side : HubWithSessions) (part : HubPart) (e : Event) (answer : Answer)
    (job : Job)
    → IsAtHub shards w
    → IsDone w.side e answer side
    → HasIssued w.part part
    → side.hub.issued ≡ w.side.hub.issued + 1
    → job_in answer ≡ job ∷ []
    → job.turn ≡ w.side.hub.issued + 1
    → are_queue_names job.queues ≡ true
    → IsAtHub shards (hub_at side part w.finished (w.issued ++ job ∷ []))
    × Issues w e answer job (hub_at side part w.finished (w.issued ++ job ∷ []))
issues shards w side part e answer job i d h issued gives turn names =
    let new = hub_at side part w.finished (w.issued ++ job ∷ []) in
    let next : part.issued ≡ w.part.issued + 1 = ap (λ (p : HubPart). p.issued) h.is in
    let same = i.turns in
    let count = i.count in (
      record {
        listed = subst IsListed (sym (same_server w.side side e answer d)) i.listed;
        own = ap (λ s. s.shards) (same_server w.side side e answer d) ∙ i.own;
        few = i.few;
        places = i.places;
        loads =
            subst (λ (p : HubPart). AreLoads shards p w.finished) (sym h.is)
            (loads_stay shards w.part h.more (w.part.issued + 1) w.finished i.loads);
        turns = omega arith;
        count = (let long = length-append w.issued (job ∷ []) in omega arith);
        named =
            each_append (λ (j : Job). are_queue_names j.queues ≡ true) w.issued (job ∷ []) i.named
            (each_one (λ (j : Job). are_queue_names j.queues ≡ true) job names);
        done = done_more w new e answer i.done d (ap (λ l. w.issued ++ l) (sym gives));
      },
      record {
        done = d;
        turn = next;
        job_turn = omega arith;
        finished = refl;
        issued = refl;
      },
    )

-- a publication is issued
pub published_done : (w : AtHub) (p : Publication) (job : Job) (sent : List Frame) (side : HubWithSessions)
    → publish_refusal w.side.server w.side.hub p w.finished ≡ None
    → IsPlanOf w.side.server w.side.hub p job sent
    → side ≡ record w.side { hub = after_frames w.side.server w.side.hub sent }
    → IsDone w.side (ByHub (of_hub.Publish p w.finished))
    (OfHub (of_hub.Issued (own_job w.side.server w.side.hub p) (frames_of w.side.server w.side.hub p))) side
published_done w p job sent side free plan is = record {
  free = free;
  asked = tt;
  answered = refl;
  after =
      is
      ∙ ap (λ fs. record {
        server = w.side.server;
        hub = after_frames w.side.server w.side.hub fs;
        sessions = w.side.sessions;
      })
      plan.frames;
}
