-- The turns of jobs that stand in order.
use Rattle.std.specs.Prelude.{◌≡◌, ℕ, ◌+◌, List, Some, slice_get}
use Rattle.subj.specs.declared.jobs.Job.{Job}

-- profile: the first job has turn 1, the next one turn 2, and so on
abbrev pub AreNumbered : List Job → Type 0
AreNumbered jobs = (k : ℕ) (job : Job) → slice_get jobs k ≡ Some job → job.turn ≡ k + 1

-- the same of jobs behind so many others
abbrev pub AreNumberedBehind : ℕ → List Job → Type 0
AreNumberedBehind count jobs =
    (k : ℕ) (job : Job) → slice_get jobs k ≡ Some job → job.turn ≡ count + k + 1
