-- What a hub at work does, event by event.
use Rattle.std.proofs.Common.{◌≡◌, ℕ, List, [], ◌∷◌, ◌++◌, Option, Some, None, Result, Ok, Err, refl, sym, ap, ◌∙◌, subst, append-nil}
use Rattle.subj.specs.Answers.{IsAnswered, IsDecided}
use Rattle.subj.specs.Servers.{IsListed}
use Rattle.subj.specs.declared.failures.Failure.{Failure}
use Rattle.subj.specs.declared.failures.Failure.TheVariants.{Refused, OutOfMemory}
use Rattle.subj.specs.declared.keys.Delta.{Delta}
use Rattle.hub_core.specs.Events as of_hub
use Rattle.hub_core.specs.State as hub
use Rattle.node_law.specs.Steps.{cut_if}
use Rattle.route_session.specs.Events as of_sessions
use Rattle.route_session.specs.State.{peer_of_session}
use Rattle.node_parts.specs.Sides.{HubWithSessions, new_side, Event, ByHub, BySessions, Answer, IsDone, Leads, side_after, side_answer, job_in}
use Rattle.node_threads.specs.AtHub.{AtHub, hub_at, HasDone, Does, IsAtHub}

server_stays : (s : HubWithSessions) (e : Event) → (side_after s e).server ≡ s.server
server_stays s (ByHub e) = refl
server_stays s (BySessions e) = refl

pub same_server : (old new : HubWithSessions) (e : Event) (answer : Answer)
    → IsDone old e answer new
    → new.server ≡ old.server
same_server old new e answer d = ap (λ (s : HubWithSessions). s.server) d.after ∙ server_stays old e

-- one event more, with the jobs of its answer
pub done_more : (w new : AtHub) (e : Event) (answer : Answer)
    → HasDone w
    → IsDone w.side e answer new.side
    → new.issued ≡ w.issued ++ job_in answer
    → HasDone new
done_more w new e answer h d gave = record {
  steps = record { before = w.side; event = e; answer = answer } ∷ h.steps;
  led = (d, subst (λ s. Leads (new_side s) h.steps w.side) (sym (same_server w.side new.side e answer d)) h.led);
  gave = gave ∙ ap (λ l. l ++ job_in answer) h.gave;
}

-- it gives no job, and issues no turn
pub record Quiet (s : HubWithSessions) (e : Event) : Type 0 where
  pub jobs : job_in (side_answer s e) ≡ []
  pub issued : (side_after s e).hub.issued ≡ s.hub.issued

quiet_cut : (h : hub.State) (q : Option ℕ) → (cut_if h q).issued ≡ h.issued
quiet_cut h None = refl
quiet_cut h (Some q) = refl

pub quiet_sessions : (s : HubWithSessions) (e : of_sessions.Event) → Quiet s (BySessions e)
quiet_sessions s (of_sessions.Dial q) = record { jobs = refl; issued = refl }
quiet_sessions s of_sessions.Accept = record { jobs = refl; issued = refl }
quiet_sessions s (of_sessions.OnInfo session info least) = record { jobs = refl; issued = refl }
quiet_sessions s (of_sessions.OnConnect session connect least) = record { jobs = refl; issued = refl }
quiet_sessions s (of_sessions.Cut session) = record {
  jobs = refl;
  issued = quiet_cut s.hub (peer_of_session session s.sessions.standing);
}

pub quiet_take : (s : HubWithSessions) (q count : ℕ) → Quiet s (ByHub (of_hub.TakeFrom q count))
quiet_take s q count = record { jobs = refl; issued = refl }

-- the sides move alone
abbrev pub with_side : AtHub → HubWithSessions → AtHub
with_side w side = hub_at side w.part w.finished w.issued

pub at_hub_does : (shards : ℕ) (w : AtHub) (new : HubWithSessions) (e : Event) (answer : Answer)
    → Quiet w.side e
    → IsDone w.side e answer new
    → IsAtHub shards w
    → IsAtHub shards (with_side w new)
at_hub_does shards w new e answer q d i =
    let issued : new.hub.issued ≡ w.side.hub.issued = ap (λ (s : HubWithSessions). s.hub.issued) d.after ∙ q.issued in
    record {
      listed = subst IsListed (sym (same_server w.side new e answer d)) i.listed;
      own = ap (λ s. s.shards) (same_server w.side new e answer d) ∙ i.own;
      few = i.few;
      places = i.places;
      loads = i.loads;
      turns = i.turns ∙ sym issued;
      count = i.count ∙ sym issued;
      named = i.named;
      done =
          done_more w (with_side w new) e answer i.done d
          (sym (append-nil w.issued) ∙ ap (λ l. w.issued ++ l) (sym (ap job_in d.answered ∙ q.jobs)));
    }

pub record Called (R T : Type 0) (shards : ℕ) (w : AtHub) (new : HubWithSessions) (e : Event) (answer : T → Answer)
    (cause : Option R) (r : Result T (Failure R)) : Type 0 where
  pub keeps : IsAtHub shards (with_side w new)
  pub answers : IsAnswered cause (λ x. Does w e (answer x) (with_side w new)) (with_side w new ≡ w) r

pub does_call : {R T : Type 0} (shards : ℕ) (w : AtHub) (new : HubWithSessions) (e : Event) (answer : T → Answer)
    (cause : Option R) (r : Result T (Failure R))
    → Quiet w.side e
    → IsAtHub shards w
    → IsAnswered cause (λ x. IsDone w.side e (answer x) new) (new ≡ w.side) r
    → Called R T shards w new e answer cause r
does_call shards w new e answer cause (Ok x) q i h = record {
  keeps = at_hub_does shards w new e (answer x) q h.1 i;
  answers = (h.0, record { done = h.1; after = refl });
}
does_call shards w new e answer cause (Err (Refused why)) q i h = record {
  keeps = subst (λ s. IsAtHub shards (with_side w s)) (sym h.1) i;
  answers = (h.0, ap (with_side w) h.1);
}
does_call shards w new e answer cause (Err OutOfMemory) q i h = record {
  keeps = subst (λ s. IsAtHub shards (with_side w s)) (sym h.1) i;
  answers = (h.0, ap (with_side w) h.1);
}

-- the same of a call that takes no memory
pub record Decided (R T : Type 0) (shards : ℕ) (w : AtHub) (new : HubWithSessions) (e : Event) (answer : T → Answer)
    (cause : Option R) (r : Result T R) : Type 0 where
  pub keeps : IsAtHub shards (with_side w new)
  pub answers : IsDecided cause (λ x. Does w e (answer x) (with_side w new)) (with_side w new ≡ w) r

pub does_decided : {R T : Type 0} (shards : ℕ) (w : AtHub) (new : HubWithSessions) (e : Event) (answer : T → Answer)
    (cause : Option R) (r : Result T R)
    → Quiet w.side e
    → IsAtHub shards w
    → IsDecided cause (λ x. IsDone w.side e (answer x) new) (new ≡ w.side) r
    → Decided R T shards w new e answer cause r
does_decided shards w new e answer cause (Ok x) q i h = record {
  keeps = at_hub_does shards w new e (answer x) q h.1 i;
  answers = (h.0, record { done = h.1; after = refl });
}
does_decided shards w new e answer cause (Err why) q i h = record {
  keeps = subst (λ s. IsAtHub shards (with_side w s)) (sym h.1) i;
  answers = (h.0, ap (with_side w) h.1);
}

pub quiet_collect : (s : HubWithSessions) (shard : ℕ) (deltas : List Delta)
    → Quiet s (ByHub (of_hub.Collect shard deltas))
quiet_collect s shard deltas = record { jobs = refl; issued = refl }

pub quiet_drain : (s : HubWithSessions) → Quiet s (ByHub of_hub.Drain)
quiet_drain s = record { jobs = refl; issued = refl }
