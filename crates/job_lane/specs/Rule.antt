-- The rule of a lane's queue.
use Rattle.std.specs.Prelude.{◌≡◌, ◌<◌, ◌≤◌, ℕ, Bool, true, false, List, [], ◌∷◌, ◌++◌, length, map, All}
use Rattle.std.specs.List.{sum_by}
use mathlib.Core.Option.{some}
use lib.ListN.{get_elem?}
use Rattle.crossbeam_queue.specs.Passes.{Pass, view}
use Rattle.subj.specs.declared.jobs.Job.{Job}
use Rattle.job_lane.specs.declared.rule.Log.{Log}
use Rattle.job_lane.specs.Turns.{AreNumbered, AreNumberedBehind}
use Rattle.job_lane.specs.Runs.{jobs_of}

abbrev pub log : Bool → Bool → List (List Job) → List (List Job) → Log
log may_push may_pop pushed popped = record {
  may_push = may_push;
  may_pop = may_pop;
  pushed = pushed;
  popped = popped;
}

-- one pass at most may push, and it knows all that was pushed; one at most may pop, and it knows
-- all that was popped
pub record KnowsItsPart (writer reader : ℕ) (pushed popped : List (List Job)) (pass : ℕ)
    (known : Log) : Type 0 where
  pub push : known.may_push ≡ true → (pass ≡ writer) × (known.pushed ≡ pushed)
  pub pop : known.may_pop ≡ true → (pass ≡ reader) × (known.popped ≡ popped)

-- the runs pushed are those popped and then those that wait, and the turns of their jobs are 1, 2,
-- .. in order
pub record HoldsInOrder (waiting : List (List Job)) (passes : List Log) : Type 0 where
  pub writer : ℕ
  pub reader : ℕ
  pub pushed : List (List Job)
  pub popped : List (List Job)
  pub in_order : pushed ≡ popped ++ waiting
  pub numbered : AreNumbered (jobs_of pushed)
  pub each : (pass : ℕ) (known : Log)
      → get_elem? passes pass ≡ some known
      → KnowsItsPart writer reader pushed popped pass known

-- a push adds the run to what was pushed
abbrev pub Adds : Log → List Job → Log → Type 0
Adds before run after =
    after ≡ log before.may_push before.may_pop (before.pushed ++ run ∷ []) before.popped

-- a pop adds the run to what was popped, and its jobs have the next turns
abbrev pub Takes : Log → List Job → Log → Type 0
Takes before run after =
    (after ≡ log before.may_push before.may_pop before.pushed (before.popped ++ run ∷ []))
    × AreNumberedBehind (length (jobs_of before.popped)) run

-- what waits is the end of what was pushed
abbrev pub WaitsAtEnd : List (List Job) → List (List Job) → Type 0
WaitsAtEnd pushed waiting = (popped : List (List Job)) × (pushed ≡ popped ++ waiting)

-- what a pass knows (in the model of an end, `view` is the view of the end itself)
abbrev pub known_by : Pass (List Job) Log → Log
known_by pass = view pass

-- ---- what the two ends keep

-- it may push and no more, each run that it pushed has jobs, and these have the turns 1, 2, .. in
-- order
pub record IsPushing (known : Log) : Type 0 where
  pub alone : known ≡ log true false known.pushed []
  pub some : All (λ (run : List Job). 0 < length run) known.pushed
  pub numbered : AreNumbered (jobs_of known.pushed)

-- it may pop and no more, and the jobs that it popped have the turns 1, 2, .. in order
pub record IsPopping (known : Log) : Type 0 where
  pub alone : known ≡ log false true [] known.popped
  pub numbered : AreNumbered (jobs_of known.popped)

-- these are the lengths of the last runs pushed
abbrev pub AreLastLengths : List (List Job) → List ℕ → Type 0
AreLastLengths pushed lengths =
    (before : List (List Job))
    × (last : List (List Job))
    × (pushed ≡ before ++ last)
    × (lengths ≡ map length last)

-- an empty list with room for so many runs and one more
pub record IsSpare (most : ℕ) (items : List (List Job)) (len capacity : ℕ) : Type 0 where
  pub empty : items ≡ []
  pub none : len ≡ 0
  pub room : most < capacity

-- how many jobs each of the last runs pushed has, and how many these may be together
pub record Counts : Type 0 where
  pub most : ℕ
  pub lengths : List ℕ

-- all of these together
abbrev pub total_of : List ℕ → ℕ
total_of lengths = sum_by (λ n. n) lengths

-- the fields of a count
pub record IsCount (most jobs : ℕ) (lengths : List ℕ) (capacity : ℕ) : Type 0 where
  pub total : jobs ≡ total_of lengths
  pub within : jobs ≤ most
  pub some : All (λ n. 0 < n) lengths
  pub room : most ≤ capacity
