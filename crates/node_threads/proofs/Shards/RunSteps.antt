-- A run of jobs without queue names that is delivered at once: the steps that it stands for.
use Rattle.std.proofs.Common.{◌≡◌, ℕ, ◌<◌, Bool, true, false, List, [], ◌∷◌, ◌++◌, length, map, take, refl, sym, ap, ◌∙◌, subst, append-nil, append_assoc, arith, inl, inr}
use Rattle.std.proofs.lemmas.List.{length-take-le}
use Rattle.list_laws.specs.Lists.{Each}
use Rattle.subj.specs.declared.jobs.Job.{Job}
use Rattle.claim_cells.specs.declared.parts.ShardPart.{ShardPart}
use Rattle.claim_cells.specs.Steps.{finished_more}
use Rattle.shard_core.specs.Runs.{after_job, placed_by, AreWorked, CanRun, delivered_run, RunsAreWorked}
use Rattle.shard_core.specs.ShardEvents.{Begin, End, Began, Finished}
use Rattle.shard_core.specs.ShardSteps.{shard_after}
use Rattle.shard_core.specs.Shards.{State}
use Rattle.node_threads.specs.Steps.{Done, Leads, jobs_of, claims_of}
use Rattle.node_threads.specs.Turns.{DeliversFirst, WorksFirst, WorksThrough, events_of, worked_through}

-- a job's two steps, before others
abbrev two_steps : State → State → Job → List Done → List Done
two_steps before s job earlier =
    record { before = shard_after s (Begin job); event = End; answer = Finished }
    ∷ record { before = s; event = Begin job; answer = Began (placed_by before job) [] [] }
    ∷ earlier

-- those of a run
abbrev run_steps : State → State → List Job → List Done → List Done
run_steps before s [] earlier = earlier
run_steps before s (job ∷ jobs) earlier = run_steps before (after_job s job) jobs (two_steps before s job earlier)

run_leads : (before from s to : State) (jobs : List Job) (earlier : List Done)
    → AreWorked before s jobs to
    → Leads from earlier s
    → Leads from (run_steps before s jobs earlier) to
run_leads before from s to [] earlier worked leads = subst (λ (end : State). Leads from earlier end) (sym worked) leads
run_leads before from s to (job ∷ jobs) earlier worked leads =
    run_leads before from (after_job s job) to jobs (two_steps before s job earlier) worked.1
    (worked.0.ended, (worked.0.begun, leads))

run_begins : (before s : State) (jobs : List Job) (earlier : List Done)
    → jobs_of (run_steps before s jobs earlier) ≡ jobs_of earlier ++ jobs
run_begins before s [] earlier = sym (append-nil (jobs_of earlier))
run_begins before s (job ∷ jobs) earlier =
    run_begins before (after_job s job) jobs (two_steps before s job earlier)
    ∙ ap (λ (l : List Job). l ++ jobs) (append-nil (jobs_of earlier ++ job ∷ []))
    ∙ append_assoc (jobs_of earlier) (job ∷ []) jobs

run_claims : (as_won : Bool) (before s : State) (jobs : List Job) (earlier : List Done)
    → claims_of as_won (run_steps before s jobs earlier) ≡ claims_of as_won earlier
run_claims as_won before s [] earlier = refl
run_claims as_won before s (job ∷ jobs) earlier =
    run_claims as_won before (after_job s job) jobs (two_steps before s job earlier)
    ∙ append-nil (claims_of as_won earlier ++ []) ∙ append-nil (claims_of as_won earlier)

-- nothing is claimed for any of them
abbrev nothing_won : List Job → List (List Bool)
nothing_won jobs = map (λ (job : Job). []) jobs

run_events : (before s : State) (jobs : List Job) (earlier : List Done)
    → events_of (run_steps before s jobs earlier) ≡ events_of earlier ++ worked_through jobs (nothing_won jobs)
run_events before s [] earlier = sym (append-nil (events_of earlier))
run_events before s (job ∷ jobs) earlier =
    let rest = worked_through jobs (nothing_won jobs) in
    run_events before (after_job s job) jobs (two_steps before s job earlier)
    ∙ append_assoc (events_of earlier ++ Begin job ∷ []) (End ∷ []) rest
    ∙ append_assoc (events_of earlier) (Begin job ∷ []) (End ∷ rest)

no_names : (jobs : List Job)
    → Each (λ job. job.queues ≡ []) jobs
    → map length (nothing_won jobs) ≡ map (λ (job : Job). length job.queues) jobs
no_names [] unnamed = refl
no_names (job ∷ jobs) unnamed =
    λ k. length (sym (unnamed job (inl refl)) k) ∷ no_names jobs (λ x i. unnamed x (inr i)) k

-- ---- as a whole

run_through : (law : RunsAreWorked) (jobs : List Job) (old : State) (before : ShardPart)
    → CanRun old jobs
    → 0 < length jobs
    → WorksThrough jobs old before (delivered_run old jobs) (finished_more (length jobs) before)
run_through law [] old before can some = absurd (omega (arith, some))
run_through law (job ∷ more) old before can some =
    let jobs = job ∷ more in
    let steps = run_steps old old jobs [] in
    record {
      wins = nothing_won jobs;
      steps = steps;
      led = run_leads old old old (delivered_run old jobs) jobs [] (law old jobs can) refl;
      events = run_events old old jobs [];
      names = no_names jobs can.unnamed;
      begun = run_begins old old jobs [];
      hand = can.hand;
      next_index = refl;
      finished = refl;
      shard = refl;
      turns = refl;
      next = refl;
      won = sym (append-nil before.won) ∙ ap (λ l. before.won ++ l) (sym (run_claims true old old jobs []));
      lost = sym (append-nil before.lost) ∙ ap (λ l. before.lost ++ l) (sym (run_claims false old old jobs []));
    }

-- so many are delivered, and their turns are finished
pub delivered_first : (law : RunsAreWorked) (jobs : List Job) (count : ℕ) (old new : State) (before after : ShardPart)
    → DeliversFirst jobs count old new
    → 0 < count
    → after ≡ finished_more count before
    → WorksFirst jobs count old before new after
delivered_first law jobs count old new before after delivers some finished =
    let long = length-take-le count jobs delivers.few in
    record {
      few = delivers.few;
      none = λ e. absurd (omega (arith, some, e));
      left = λ e. absurd (omega (arith, some, e));
      through = λ more.
          subst (λ s. WorksThrough (take count jobs) old before s after) (sym (delivers.after more))
          (subst (λ p. WorksThrough (take count jobs) old before (delivered_run old (take count jobs)) p)
          (ap (λ n. finished_more n before) long ∙ sym finished)
          (run_through law (take count jobs) old before (delivers.can more) (omega (arith, more, long))));
    }

-- or none is
pub none_delivered : (jobs : List Job) (count : ℕ) (old new : State) (part : ShardPart)
    → DeliversFirst jobs count old new
    → count ≡ 0
    → WorksFirst jobs 0 old part new part
none_delivered jobs count old new part delivers zero_is = record {
  few = omega arith;
  none = λ e. delivers.none zero_is;
  left = λ e. refl;
  through = λ more. absurd (omega (arith, more));
}
