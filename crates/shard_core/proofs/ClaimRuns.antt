-- A job that claims one queue name and goes to nobody at Begin: its three steps.
use Rattle.std.proofs.Common.{◌≡◌, ℕ, ◌+◌, Bool, true, false, cond, List, [], ◌∷◌, length, map, filter, Option, Some, None, refl, sym, ap, ◌∙◌, subst}
use Rattle.std.specs.Prelude.{nat_eq, nat_lt, is_some}
use Rattle.list_laws.proofs.Changes.{append_nil}
use Rattle.list_laws.proofs.Tests.{true_eq}
use Rattle.sub_table.specs.declared.Subscription.{Subscription}
use Rattle.subj.specs.declared.jobs.Job.{Job}
use Rattle.shard_core.specs.declared.faults.ShardFault.TheVariants.{JobInHand, WrongTurn, BadIndex, NotAllTried}
use Rattle.shard_core.specs.ClaimRuns.{begun_by, tried_by, IsClaimed}
use Rattle.shard_core.specs.Owed.{walk, first_step, after_walk, after_claim, candidate_of, is_due, sub_with_count}
use Rattle.shard_core.specs.ShardSteps.{begin_answer, claim_refusal, end_refusal}
use Rattle.shard_core.specs.Shards.{State}
use Rattle.shard_core.proofs.RunCounts.{none_closed}

none_counted : (subs : List Subscription) → map (sub_with_count []) subs ≡ subs
none_counted [] = refl
none_counted (x ∷ xs) = ap (λ l. x ∷ l) (none_counted xs)

-- the job is in hand, and nothing else has changed
abbrev pub in_hand : State → Job → State
in_hand s job = record s { hand = Some job; next_index = 0 }

-- where it goes to nobody, that is all that its Begin does
pub begun_quietly : (s : State) (job : Job) → filter (is_due job) s.subs ≡ [] → begun_by s job ≡ in_hand s job
begun_quietly s job none =
    ap (λ subs. after_walk (in_hand s job) (walk s job subs (first_step s.clients))) none
    ∙ (λ i. record (in_hand s job) {
      subs = (none_closed (map (sub_with_count []) s.subs) ∙ none_counted s.subs) i;
      deltas = append_nil s.deltas i;
    })

-- a claim leaves the job in hand, and its index tried
abbrev OneTried : State → Job → Type 0
OneTried t job = (t.hand ≡ Some job) × (t.next_index ≡ 1)

tried_one : (s : State) (job : Job) (chosen : Option Subscription) (won : Bool)
    → OneTried (after_claim (in_hand s job) (Some job) chosen won) job
tried_one s job None won = (refl, refl)
tried_one s job (Some sub) true = (refl, refl)
tried_one s job (Some sub) false = (refl, refl)

may_end : (t : State) (job : Job) → OneTried t job → length job.queues ≡ 1 → end_refusal t t.hand ≡ None
may_end t job tried one =
    ap (end_refusal t) tried.0
    ∙ ap (λ b. cond b None (Some NotAllTried)) (true_eq t.next_index (length job.queues) (tried.1 ∙ sym one))

pub claimed_one : (s : State) (job : Job) (won : Bool)
    → s.hand ≡ None → job.turn ≡ s.finished + 1 → length job.queues ≡ 1 → filter (is_due job) s.subs ≡ []
    → IsClaimed s job won
claimed_one s job won hand turn one none = record {
  begun = record {
    cause =
        ap (λ (h : Option Job). cond (is_some h) (Some JobInHand)
        (cond (nat_eq job.turn (s.finished + 1)) None (Some WrongTurn))) hand
        ∙ ap (λ b. cond b None (Some WrongTurn)) (true_eq job.turn (s.finished + 1) turn);
    asked = tt;
    answered = ap (λ subs. begin_answer s job (walk s job subs (first_step s.clients))) (sym none);
    after = refl;
  };
  tried = record {
    cause = subst (λ (b : State). claim_refusal b 0 b.hand ≡ None) (sym quiet) first;
    asked = tt;
    answered = refl;
    after = refl;
  };
  ended = record {
    cause = may_end (tried_by s job won) job
        (subst (λ (b : State). OneTried (after_claim b b.hand (candidate_of b b.hand 0) won) job) (sym quiet)
        (tried_one s job (candidate_of (in_hand s job) (Some job) 0) won))
        one;
    asked = tt;
    answered = refl;
    after = refl;
  };
}
  where
    quiet : begun_by s job ≡ in_hand s job
    quiet = begun_quietly s job none

    first : claim_refusal (in_hand s job) 0 (Some job) ≡ None
    first = ap (λ (n : ℕ). cond (nat_lt 0 n) None (Some BadIndex)) one
