-- What the end for popping gives of the jobs that came.
use Rattle.std.proofs.Common.{◌≡◌, ℕ, zero, suc, ◌+◌, ◌-◌, List, [], ◌∷◌, ◌++◌, length, take, drop, Option, Some, None, MatchOption, refl, ap, sym, ◌∙◌, subst, inl, inr, arith, append_assoc, append-nil, length-append}
use Rattle.std.specs.Prelude.{option_to_list, slice_get}
use Rattle.std.proofs.Math.Seq.{take-append_seam, drop-nil}
use Rattle.std.proofs.lemmas.List.{take-append-drop, drop-drop}
use Rattle.atomic_table.specs.Seated.{TableId}
use Rattle.subj.specs.declared.jobs.Job.{Job}
use Rattle.job_lane.specs.Ends.{ArePopped, Reader}
use Rattle.job_lane.specs.Runs.{GoesOnIn, IsFirstTurn, IsGiving, IsTaken, jobs_given, job_in_hand, jobs_of, left_of, not_given}
use Rattle.job_lane.specs.Turns.{AreNumbered}
use Rattle.job_lane.proofs.Numbering.{numbered_next}
use Rattle.job_lane.proofs.Lists.{jobs_snoc}

-- what came before the jobs that were not given yet is what was given
pub given_is : (came : List Job) (run : Option (List Job)) (before : List Job)
    → came ≡ before ++ not_given run
    → jobs_given came run ≡ before
given_is came run before is =
    let e : length came ≡ length before + length (not_given run) =
    ap length is ∙ length-append before (not_given run) in
    ap (λ (n : ℕ). take n came) {x = length came - length (not_given run)} {y = length before} (omega arith)
    ∙ ap (take (length before)) is
    ∙ take-append_seam before (not_given run)

-- what was given, and behind it what was not, is what came
pub all_given : (came : List Job) (run : Option (List Job))
    → IsGiving came run
    → came ≡ jobs_given came run ++ not_given run
all_given came run is = is.1 ∙ ap (λ l. l ++ not_given run) (sym (given_is came run is.0 is.1))

abbrev turn_in : Option (List Job) → ℕ
turn_in None = 0
turn_in (Some []) = 0
turn_in (Some (job ∷ jobs)) = job.turn

-- the next job of the run
module _ (came : List Job) (old new : Option (List Job)) (goes : GoesOnIn old new) (is : IsGiving came old) where
  next_split : came ≡ (is.0 ++ goes.1 ∷ []) ++ not_given new
  next_split =
      is.1
      ∙ ap (λ (run : Option (List Job)). is.0 ++ not_given run) goes.3
      ∙ sym (append_assoc is.0 (goes.1 ∷ []) goes.2)
      ∙ ap (λ (run : Option (List Job)). (is.0 ++ goes.1 ∷ []) ++ not_given run) (sym goes.4)

  pub next_giving : IsGiving came new
  next_giving = (is.0 ++ goes.1 ∷ [], next_split)

  pub next_given : jobs_given came new ≡ jobs_given came old ++ goes.1 ∷ []
  next_given =
      given_is came new (is.0 ++ goes.1 ∷ []) next_split
      ∙ ap (λ l. l ++ goes.1 ∷ []) (sym (given_is came old is.0 is.1))

  -- it is the one in hand, and its turn is told
  pub went_on : (turn : Option ℕ) → AreNumbered came → IsFirstTurn new turn
      → IsTaken (jobs_given came old) (jobs_given came new) (not_given old) new turn
  went_on None numbered told = absurd (let e = goes.4 in cc (told, e))
  went_on (Some n) numbered told =
      let job : Job = goes.1 in
      let turn : job.turn ≡ n = ap (λ (run : Option (List Job)). turn_in run) (sym goes.4 ∙ told.2) ∙ told.3 in
      let given_now = next_given in
      let count : job.turn ≡ length (jobs_given came old) + 1 =
      numbered_next (jobs_given came old) job goes.2 (subst AreNumbered (split_at) numbered) in
      let long : length (jobs_given came new) ≡ length (jobs_given came old) + 1 =
      ap length next_given ∙ length-append (jobs_given came old) (job ∷ []) in
      (job, next_given, ap job_in_hand goes.4, turn, (omega arith), inr follows)
    where
      follows : not_given old ≡ goes.1 ∷ not_given new
      follows = ap not_given goes.3 ∙ ap (λ (run : Option (List Job)). goes.1 ∷ not_given run) (sym goes.4)

      split_at : came ≡ jobs_given came old ++ goes.1 ∷ goes.2
      split_at =
          is.1
          ∙ ap (λ (run : Option (List Job)). is.0 ++ not_given run) goes.3
          ∙ ap (λ l. l ++ goes.1 ∷ goes.2) (sym (given_is came old is.0 is.1))

-- the first job of the next run
module _ (came : List Job) (old : Option (List Job)) (none : not_given old ≡ []) (is : IsGiving came old) where
  pub all_came : jobs_given came old ≡ came
  all_came = given_is came old came (sym (append-nil came) ∙ ap (λ l. came ++ l) (sym none))

  module _ (job : Job) (jobs : List Job) where
    first_split : came ++ job ∷ jobs ≡ (came ++ job ∷ []) ++ jobs
    first_split = sym (append_assoc came (job ∷ []) jobs)

    pub first_giving : IsGiving (came ++ job ∷ jobs) (Some (job ∷ jobs))
    first_giving = (came ++ job ∷ [], first_split)

    pub first_given : jobs_given (came ++ job ∷ jobs) (Some (job ∷ jobs)) ≡ jobs_given came old ++ job ∷ []
    first_given =
        given_is (came ++ job ∷ jobs) (Some (job ∷ jobs)) (came ++ job ∷ []) first_split
        ∙ ap (λ l. l ++ job ∷ []) (sym all_came)

pub none_giving : (came : List Job) → IsGiving came None
none_giving came = (came, sym (append-nil came))

pub none_given : (came : List Job) → jobs_given came None ≡ came
none_given came = given_is came None came (sym (append-nil came))

-- a run that came, or none, where all that came before was given
module _ (came : List Job) (old : Option (List Job)) (none : not_given old ≡ []) (is : IsGiving came old) where
  pub came_giving : (came' : List Job) (new : Option (List Job))
      → MatchOption new (came' ≡ came) (λ run. came' ≡ came ++ run)
      → (turn : Option ℕ)
      → IsFirstTurn new turn
      → IsGiving came' new
  came_giving came' None same turn told = subst (λ l. IsGiving l None) (sym same) (none_giving came)
  came_giving came' (Some []) more turn told = (came', sym (append-nil came'))
  came_giving came' (Some (job ∷ jobs)) more turn told =
      subst (λ l. IsGiving l (Some (job ∷ jobs))) (sym more) (first_giving came old none is job jobs)

  pub came_taken : (came' : List Job) (new : Option (List Job))
      → MatchOption new (came' ≡ came) (λ run. came' ≡ came ++ run)
      → AreNumbered came'
      → (turn : Option ℕ)
      → IsFirstTurn new turn
      → IsTaken (jobs_given came old) (jobs_given came' new) (not_given old) new turn
  came_taken came' None same numbered None told = (
    none_given came' ∙ same ∙ sym (all_came came old none is),
    refl,
    none,
  )
  came_taken came' None same numbered (Some n) told = absurd (let e = told.2 in cc (e))
  came_taken came' (Some run) more numbered None told = absurd (cc (told))
  came_taken came' (Some []) more numbered (Some n) told = absurd (let e = told.2 in cc (e))
  came_taken came' (Some (job ∷ jobs)) more numbered (Some n) told =
      let turn : job.turn ≡ n = ap turn_in told.2 ∙ told.3 in
      let split : came' ≡ jobs_given came old ++ job ∷ jobs =
      more ∙ ap (λ l. l ++ job ∷ jobs) (sym (all_came came old none is)) in
      let now : jobs_given came' (Some (job ∷ jobs)) ≡ jobs_given came old ++ job ∷ [] =
      ap (λ l. jobs_given l (Some (job ∷ jobs))) more ∙ first_given came old none is job jobs in
      let count : job.turn ≡ length (jobs_given came old) + 1 =
      numbered_next (jobs_given came old) job jobs (subst AreNumbered split numbered) in
      let long : length (jobs_given came' (Some (job ∷ jobs))) ≡ length (jobs_given came old) + 1 =
      ap length now ∙ length-append (jobs_given came old) (job ∷ []) in
      (job, now, refl, turn, (omega arith), inl none)

-- so many more of the run are given at once
module _ (came : List Job) (run : Option (List Job)) (count : ℕ) where
  pub left_behind : not_given (left_of count run) ≡ drop count (not_given run)
  left_behind = left_in run
    where
      left_in : (run : Option (List Job)) → not_given (left_of count run) ≡ drop count (not_given run)
      left_in None = sym (drop-nil count)
      left_in (Some jobs) =
          drop-drop 1 count jobs
          ∙ ap (λ (n : ℕ). drop n jobs) {x = count + 1} {y = 1 + count} (omega arith)
          ∙ sym (drop-drop count 1 jobs)

  left_split : (is : IsGiving came run) → came ≡ (is.0 ++ take count (not_given run)) ++ not_given (left_of count run)
  left_split is = is.1 ∙ ap (λ l. is.0 ++ l) (sym (take-append-drop count (not_given run)))
      ∙ sym (append_assoc is.0 (take count (not_given run)) (drop count (not_given run)))
      ∙ ap (λ l. (is.0 ++ take count (not_given run)) ++ l) (sym left_behind)

  pub left_giving : IsGiving came run → IsGiving came (left_of count run)
  left_giving is = (is.0 ++ take count (not_given run), left_split is)

  pub left_given : IsGiving came run
      → jobs_given came (left_of count run) ≡ jobs_given came run ++ take count (not_given run)
  left_given is = given_is came (left_of count run) (is.0 ++ take count (not_given run)) (left_split is)
      ∙ ap (λ l. l ++ take count (not_given run)) (sym (given_is came run is.0 is.1))

-- a run is its first job, and behind it the others
pub from_first : (run : List Job) → run ≡ option_to_list (slice_get run 0) ++ drop 1 run
from_first [] = refl
from_first (job ∷ jobs) = refl

no_job : (n : ℕ) → slice_get {X = Job} [] n ≡ None
no_job zero = refl
no_job (suc n) = refl

first_left : (run : List Job) (n : ℕ) → slice_get (drop n run) 0 ≡ slice_get run n
first_left [] n = ap (λ (l : List Job). slice_get l 0) (drop-nil n) ∙ sym (no_job n)
first_left (job ∷ jobs) zero = refl
first_left (job ∷ jobs) (suc n) = first_left jobs n

-- the job in hand, where so many were left behind
pub left_hand : (run : Option (List Job)) (count : ℕ)
    → job_in_hand (left_of count run) ≡ slice_get (option_to_list (job_in_hand run) ++ not_given run) count
left_hand None count = sym (no_job count)
left_hand (Some run) count = first_left run count ∙ ap (λ (l : List Job). slice_get l count) (from_first run)

-- what the end for popping shows
abbrev pub reader_of : TableId → List Job → Option (List Job) → Reader
reader_of lane came run = record {
  lane = lane;
  popped = jobs_given came run;
  hand = job_in_hand run;
  behind = not_given run;
}

pub left_popped : (lane : TableId) (came : List Job) (run : Option (List Job)) (count : ℕ) → IsGiving came run
    → ArePopped count (reader_of lane came run) (reader_of lane came (left_of count run))
left_popped lane came run count is = record {
  lane = refl;
  popped = left_given came run count is;
  hand = left_hand run count;
  behind = left_behind came run count;
}

-- the jobs of the runs that came
pub jobs_more : (run : Option (List Job)) (old new : List (List Job))
    → MatchOption run (new ≡ old) (λ run. new ≡ old ++ run ∷ [])
    → MatchOption run (jobs_of new ≡ jobs_of old) (λ run. jobs_of new ≡ jobs_of old ++ run)
jobs_more None old new same = ap jobs_of same
jobs_more (Some run) old new more = ap jobs_of more ∙ jobs_snoc old run
