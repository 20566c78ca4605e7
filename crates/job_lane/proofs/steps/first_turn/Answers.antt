use Rattle.std.proofs.Common.{◌≡◌, List, [], ◌∷◌, Some, drop, slice_get, ap, sym, ◌∙◌}
use Rattle.std.proofs.lemmas.Option.{same_Some}
use Rattle.subj.specs.declared.jobs.Job.{Job}
use Rattle.job_lane.proofs.steps.first_turn.Goals as goal

-- a list in which a job stands first
begins : (jobs : List Job) (job : Job) → slice_get jobs 0 ≡ Some job → jobs ≡ job ∷ drop 1 jobs
begins [] job is = absurd (cc (is))
begins (other ∷ jobs) job is = ap (λ (first : Job). first ∷ jobs) (same_Some other job is)

pub returns : goal.returns
returns c =
    let jobs = c.jobs-jobs.result in
    let job = c.get.result in (
      job,
      drop 1 jobs,
      sym c.in_ok-as_ref.ensures.value
          ∙ ap (λ (run : List Job). Some run) (sym c.jobs-jobs.ensures.same ∙ begins jobs job c.get.ensures),
      sym c.turn.ensures,
    )
