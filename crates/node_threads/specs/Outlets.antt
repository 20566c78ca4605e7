-- The jobs of a hub on their way to the lanes.
use Rattle.std.specs.Prelude.{◌≡◌, ◌<◌, ℕ, Bool, true, false, List, [], ◌∷◌, ◌++◌, length, All, Option, Some, None}
use Rattle.subj.specs.declared.jobs.Job.{Job}
use Rattle.job_lane.specs.Turns.{AreNumbered}

-- the hub's end of a lane: of which shard, counted from 1; what was pushed to the lane; and whether
-- that has the run that is handed out
pub record LaneSender : Type 0 where
  pub shard : ℕ
  pub pushed : List Job
  pub taken : Bool

-- the run that a lane does not have yet
abbrev pub jobs_owed : Bool → Option (List Job) → List Job
jobs_owed taken None = []
jobs_owed true (Some run) = []
jobs_owed false (Some run) = run

-- what was pushed, and what is still to be
abbrev pub jobs_handed_to : Option (List Job) → List Job → LaneSender → List Job
jobs_handed_to run unsent line = line.pushed ++ (jobs_owed line.taken run ++ unsent)

-- the same for all lanes: that of the first
abbrev pub jobs_handed : Option (List Job) → List Job → List LaneSender → List Job
jobs_handed run unsent [] = []
jobs_handed run unsent (line ∷ lines) = jobs_handed_to run unsent line

-- what a hub keeps of them
pub record IsOutlet (run : Option (List Job)) (unsent : List Job) (lines : List LaneSender) :
    Type 0 where
  pub some : 0 < length lines
  pub alike : All (λ line. jobs_handed_to run unsent line ≡ jobs_handed run unsent lines) lines
  pub numbered : AreNumbered (jobs_handed run unsent lines)

-- these jobs are the first of those
abbrev pub AreFirst : List Job → List Job → Type 0
AreFirst first jobs = (rest : List Job) × (jobs ≡ first ++ rest)
