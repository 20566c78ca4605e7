-- The ends of a lane as other crates see them.
use Rattle.std.specs.Prelude.{◌≡◌, ◌<◌, ◌≤◌, ◌⊎◌, ℕ, ◌+◌, List, [], ◌∷◌, ◌++◌, length, take, drop, slice_get, Option, Some, option_to_list}
use Rattle.atomic_table.specs.Seated.{TableId}
use Rattle.subj.specs.declared.jobs.Job.{Job}

-- the end for pushing: which lane it is of, how many jobs can wait, and all that were pushed
pub record Writer : Type 0 where
  pub lane : TableId
  pub capacity : ℕ
  pub pushed : List Job

-- the end for popping: which lane it is of, all jobs that were popped, the one of them that is in
-- hand, and the jobs of its run behind it, which were not popped yet
pub record Reader : Type 0 where
  pub lane : TableId
  pub popped : List Job
  pub hand : Option Job
  pub behind : List Job

-- the job in hand, and those of its run behind it
abbrev pub from_hand : Reader → List Job
from_hand end = option_to_list end.hand ++ end.behind

-- of the jobs pushed the last ones waited, and beside them there was room for so many more
abbrev pub HadRoom : ℕ → List Job → ℕ → Type 0
HadRoom capacity pushed jobs =
    (popped : List Job)
    × (waiting : List Job)
    × (pushed ≡ popped ++ waiting)
    × (length waiting + jobs ≤ capacity)

-- the same, and there was none
abbrev pub LackedRoom : ℕ → List Job → ℕ → Type 0
LackedRoom capacity pushed jobs =
    (popped : List Job)
    × (waiting : List Job)
    × (pushed ≡ popped ++ waiting)
    × (capacity < length waiting + jobs)

-- the next job: the first of those behind the one in hand, where there are such, and else the first
-- of the next run
abbrev pub IsNextOf : List Job → Job → List Job → Type 0
IsNextOf behind job left = (behind ≡ []) ⊎ (behind ≡ job ∷ left)

-- the next job was popped: it is in hand, and its turn says the how manieth it is
abbrev pub IsPopped : Reader → Reader → ℕ → Type 0
IsPopped old new turn =
    (job : Job) × (new.popped ≡ old.popped ++ job ∷ []) × (new.hand ≡ Some job) × (job.turn ≡ turn)
    × (turn ≡ length new.popped) × IsNextOf old.behind job new.behind

-- so many jobs behind the one in hand were popped: the last of them is in hand
pub record ArePopped (count : ℕ) (old new : Reader) : Type 0 where
  pub lane : new.lane ≡ old.lane
  pub popped : new.popped ≡ old.popped ++ take count old.behind
  pub hand : new.hand ≡ slice_get (from_hand old) count
  pub behind : new.behind ≡ drop count old.behind
