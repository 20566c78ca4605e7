-- Lists of jobs whose turns are 1, 2, .. in order.
use Rattle.std.proofs.Common.{◌≡◌, ◌⊎◌, ℕ, zero, suc, ◌+◌, List, [], ◌∷◌, ◌++◌, length, Option, None, Some, refl, ap, sym, ◌∙◌, subst, ⊎_elim, inl, inr, arith}
use Rattle.std.specs.Prelude.{slice_get}
use Rattle.std.proofs.lemmas.Grind.{flat_map-append}
use Rattle.subj.specs.declared.jobs.Job.{Job}
use Rattle.job_lane.specs.Runs.{jobs_of}
use Rattle.job_lane.specs.Turns.{AreNumbered, AreNumberedBehind}
use Rattle.job_lane.proofs.Lists.{jobs_snoc}

abbrev turn_or : Option Job → ℕ
turn_or None = 0
turn_or (Some job) = job.turn

-- the item at a place of two lists is one of the first, or of the second
slice_get-append : (xs ys : List Job) (k : ℕ) (y : Job)
    → slice_get (xs ++ ys) k ≡ Some y
    → (slice_get xs k ≡ Some y) ⊎ ((m : ℕ) × (k ≡ length xs + m) × (slice_get ys m ≡ Some y))
slice_get-append [] ys k y is = inr (k, omega arith, is)
slice_get-append (x ∷ xs) ys zero y is = inl is
slice_get-append (x ∷ xs) ys (suc k) y is =
    ⊎_elim (λ front. inl front) (λ back. inr (back.0, (let e = back.1 in omega arith), back.2))
    (slice_get-append xs ys k y is)

slice_get-front : (xs ys : List Job) (k : ℕ) (y : Job) → slice_get xs k ≡ Some y → slice_get (xs ++ ys) k ≡ Some y
slice_get-front [] ys k y is = absurd (cc (is))
slice_get-front (x ∷ xs) ys zero y is = is
slice_get-front (x ∷ xs) ys (suc k) y is = slice_get-front xs ys k y is

slice_get-back : (xs ys : List Job) (k : ℕ) (y : Job)
    → slice_get ys k ≡ Some y
    → slice_get (xs ++ ys) (length xs + k) ≡ Some y
slice_get-back [] ys k y is = ap (slice_get ys) {x = 0 + k} {y = k} (omega arith) ∙ is
slice_get-back (x ∷ xs) ys k y is =
    ap (slice_get (x ∷ (xs ++ ys))) {x = suc (length xs) + k} {y = suc (length xs + k)} (omega arith)
    ∙ slice_get-back xs ys k y is

pub numbered_none : AreNumbered []
numbered_none zero job is = absurd (cc (is))
numbered_none (suc k) job is = absurd (cc (is))

-- more jobs, of the next turns, behind them
pub numbered_append : (xs ys : List Job) → AreNumbered xs → AreNumberedBehind (length xs) ys → AreNumbered (xs ++ ys)
numbered_append xs ys all more k job is =
    ⊎_elim (λ front. all k job front) (λ back. let turn = more back.0 job back.2 in let e = back.1 in omega arith)
    (slice_get-append xs ys k job is)

pub numbered_front : (xs ys : List Job) → AreNumbered (xs ++ ys) → AreNumbered xs
numbered_front xs ys all k job is = all k job (slice_get-front xs ys k job is)

pub numbered_behind : (xs ys : List Job) → AreNumbered (xs ++ ys) → AreNumberedBehind (length xs) ys
numbered_behind xs ys all k job is = all (length xs + k) job (slice_get-back xs ys k job is)

-- the first of them
pub numbered_next : (xs : List Job) (job : Job) (more : List Job)
    → AreNumbered (xs ++ job ∷ more)
    → job.turn ≡ length xs + 1
numbered_next xs job more all = let turn = numbered_behind xs (job ∷ more) all 0 job (λ i. Some job) in omega arith

-- one more run, of the next turns, behind the others
pub numbered_run : (runs : List (List Job)) (run : List Job)
    → AreNumbered (jobs_of runs)
    → AreNumberedBehind (length (jobs_of runs)) run
    → AreNumbered (jobs_of (runs ++ run ∷ []))
numbered_run runs run all more =
    subst AreNumbered (sym (jobs_snoc runs run)) (numbered_append (jobs_of runs) run all more)

-- the run behind the first ones has the next turns
pub next_numbered : (runs : List (List Job)) (run : List Job) (more : List (List Job))
    → AreNumbered (jobs_of (runs ++ run ∷ more))
    → AreNumberedBehind (length (jobs_of runs)) run
next_numbered runs run more all k job is =
    numbered_behind (jobs_of runs) (run ++ jobs_of more)
    (subst AreNumbered (flat_map-append (λ (run : List Job). run) runs (run ∷ more)) all) k job
    (slice_get-front run (jobs_of more) k job is)

-- one more job, of the next turn, behind those of a run
pub behind_snoc : (count : ℕ) (jobs : List Job) (job : Job)
    → AreNumberedBehind count jobs
    → job.turn ≡ count + length jobs + 1
    → AreNumberedBehind count (jobs ++ job ∷ [])
behind_snoc count jobs job all turn k at is =
    ⊎_elim (λ front. all k at front)
    (λ back.
    let same : job.turn ≡ at.turn = only back.0 back.2 in
    let e = back.1 in
    let first = place back.0 back.2 in
    omega arith)
    (slice_get-append jobs (job ∷ []) k at is)
  where
    nothing : (m : ℕ) → slice_get (job ∷ []) (suc m) ≡ Some at → ⊥
    nothing zero e = cc (e)
    nothing (suc m) e = cc (e)

    only : (m : ℕ) → slice_get (job ∷ []) m ≡ Some at → job.turn ≡ at.turn
    only zero e = ap (λ (o : Option Job). turn_or o) e
    only (suc m) e = absurd (nothing m e)

    place : (m : ℕ) → slice_get (job ∷ []) m ≡ Some at → m ≡ 0
    place zero e = refl
    place (suc m) e = absurd (nothing m e)

pub behind_none : (count : ℕ) → AreNumberedBehind count []
behind_none count zero job is = absurd (cc (is))
behind_none count (suc k) job is = absurd (cc (is))
