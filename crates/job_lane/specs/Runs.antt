-- Runs of jobs, one behind another.
use Rattle.std.specs.Prelude.{◌≡◌, ℕ, ◌-◌, MatchOption, List, [], ◌∷◌, ◌++◌, length, take, drop, slice_get, Option, Some, None}
use Rattle.std.specs.List.{flat_map}
use Rattle.subj.specs.declared.jobs.Job.{Job}
use Rattle.job_lane.specs.Ends.{IsNextOf}

-- the jobs of all runs
abbrev pub jobs_of : List (List Job) → List Job
jobs_of runs = flat_map (λ run. run) runs

-- a run goes on to its next job by leaving the first one behind
abbrev pub GoesOn : List Job → List Job → Type 0
GoesOn old new =
    (job : Job) × (next : Job) × (jobs : List Job) × (old ≡ job ∷ next ∷ jobs) × (new ≡ next ∷ jobs)

abbrev pub GoesOnIn : Option (List Job) → Option (List Job) → Type 0
GoesOnIn old new =
    (job : Job)
    × (next : Job)
    × (jobs : List Job)
    × (old ≡ Some (job ∷ next ∷ jobs))
    × (new ≡ Some (next ∷ jobs))

-- The run that is given out begins with the job in hand.
abbrev pub job_in_hand : Option (List Job) → Option Job
job_in_hand None = None
job_in_hand (Some run) = slice_get run 0

-- those of its jobs that were not given yet
abbrev pub not_given : Option (List Job) → List Job
not_given None = []
not_given (Some run) = drop 1 run

-- those of all jobs that came which were given
abbrev pub jobs_given : List Job → Option (List Job) → List Job
jobs_given came run = take (length came - length (not_given run)) came

-- what was not given yet came last
abbrev pub IsGiving : List Job → Option (List Job) → Type 0
IsGiving came run = (before : List Job) × (came ≡ before ++ not_given run)

-- the run without so many of its first jobs
abbrev pub left_of : ℕ → Option (List Job) → Option (List Job)
left_of count None = None
left_of count (Some run) = Some (drop count run)

-- the turn of the run's first job
abbrev pub IsFirstTurn : Option (List Job) → Option ℕ → Type 0
IsFirstTurn run turn =
    MatchOption turn (run ≡ None)
    (λ n. (job : Job) × (jobs : List Job) × (run ≡ Some (job ∷ jobs)) × (job.turn ≡ n))

-- One job more was given: the first of the run, which is the next of those that were not given, and
-- whose turn says the how manieth it is. Or none was left to give.
abbrev pub IsTaken : List Job → List Job → List Job → Option (List Job) → Option ℕ → Type 0
IsTaken old new left run turn =
    MatchOption turn ((new ≡ old) × (run ≡ None) × (left ≡ []))
    (λ n. (job : Job) × (new ≡ old ++ job ∷ []) × (job_in_hand run ≡ Some job) × (job.turn ≡ n)
    × (n ≡ length new) × IsNextOf left job (not_given run))
