-- The closed example.
use Rattle.std.proofs.Common.{◌≡◌, ◌≢◌, ℕ, true, [], ◌∷◌, Some, None, refl, arith}
use Rattle.std.specs.Fmt.{digits}
use Rattle.list_laws.proofs.Tests.{le_true}
use Rattle.list_laws.specs.Lists.{Each}
use Rattle.list_laws.proofs.Lists.{each_cons, each_one}
use Rattle.sub_table.specs.declared.Subscription.{Subscription}
use Rattle.subj.specs.declared.jobs.Job.{Job}
use Rattle.shard_core.specs.Owed.{is_due}
use Rattle.shard_core.specs.Runs.{IsReceiver, CanRun}
use Rattle.shard_core.specs.RunExample.{sub, shard, first_job, second_job, jobs, RunByHand}

apart_one : (m n : ℕ) → m ≢ n → Each (λ k. m ≢ k) (n ∷ [])
apart_one m n apart = each_one (λ k. m ≢ k) n apart

-- each subscription could get the whole run, whichever jobs it gets
abbrev Served : Job → Subscription → Type 0
Served job s = is_due job s ≡ true → IsReceiver shard jobs s

one : IsReceiver shard jobs (sub 1 1 None)
unfolding digits
one = record {
  unspent = refl;
  room = record { takes_events = refl; few = le_true _ _ refl; small = le_true _ _ refl };
}

two : IsReceiver shard jobs (sub 2 2 (Some 3))
unfolding digits
two = record {
  unspent = refl;
  room = record { takes_events = refl; few = le_true _ _ refl; small = le_true _ _ refl };
}

three : IsReceiver shard jobs (sub 3 1 None)
unfolding digits
three = record {
  unspent = refl;
  room = record { takes_events = refl; few = le_true _ _ refl; small = le_true _ _ refl };
}

for_job : (job : Job) → Each (Served job) shard.subs
for_job job =
    each_cons (Served job) (sub 1 1 None) (sub 2 2 (Some 3) ∷ sub 3 1 None ∷ []) (λ due. one)
    (each_cons (Served job) (sub 2 2 (Some 3)) (sub 3 1 None ∷ []) (λ due. two)
    (each_one (Served job) (sub 3 1 None) (λ due. three)))

can_run : CanRun shard jobs
can_run = record {
  hand = refl;
  turns = (refl, (refl, refl));
  unnamed =
      each_cons (λ (j : Job). j.queues ≡ []) first_job (second_job ∷ []) refl
      (each_one (λ (j : Job). j.queues ≡ []) second_job refl);
  numbers = (apart_one 1 2 (λ e. absurd (omega (arith, e))), ((λ n i. absurd i), tt));
  serials = (
    each_cons (λ k. 1 ≢ k) 2 (3 ∷ []) (λ e. absurd (omega (arith, e))) (apart_one 1 3 (λ e. absurd (omega (arith, e)))),
    (apart_one 2 3 (λ e. absurd (omega (arith, e))), ((λ n i. absurd i), tt)),
  );
  receivers =
      each_cons (λ (j : Job). Each (Served j) shard.subs) first_job (second_job ∷ []) (for_job first_job)
      (each_one (λ (j : Job). Each (Served j) shard.subs) second_job (for_job second_job));
}

pub run_by_hand : RunByHand
unfolding digits
run_by_hand = record {
  can = can_run;
  first = refl;
  second = refl;
  first_bytes = refl;
  second_bytes = refl;
  counts = refl;
  finished = refl;
}
