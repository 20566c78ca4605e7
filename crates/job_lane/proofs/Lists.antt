-- Runs of jobs as lists: all of their jobs, their lengths, and what is given of them.
use Rattle.std.proofs.Common.{◌≡◌, ℕ, zero, suc, ◌+◌, ◌-◌, ◌<◌, ◌≤◌, List, [], ◌∷◌, ◌++◌, length, map, drop, Bool, true, false, refl, ap, sym, ◌∙◌, subst, arith, append_assoc, append-nil, length-append, length-drop, All}
use Rattle.std.specs.Prelude.{nat_le}
use Rattle.std.proofs.lemmas.Bool.Decides.{nat_tests}
use Rattle.std.proofs.lemmas.List.Sums.{sum_by-cons, sum_by-append}
use Rattle.std.proofs.lemmas.Grind.{flat_map-append}
use Rattle.subj.specs.declared.jobs.Job.{Job}
use Rattle.job_lane.specs.Ends.{HadRoom, LackedRoom}
use Rattle.job_lane.specs.Rule.{AreLastLengths, IsCount, total_of}
use Rattle.job_lane.specs.Runs.{GoesOn, jobs_of}

abbrev HasJobs : List Job → Type 0
HasJobs run = 0 < length run

pub jobs_append : (runs more : List (List Job)) → jobs_of (runs ++ more) ≡ jobs_of runs ++ jobs_of more
jobs_append runs more = flat_map-append (λ (run : List Job). run) runs more

pub jobs_snoc : (runs : List (List Job)) (run : List Job) → jobs_of (runs ++ run ∷ []) ≡ jobs_of runs ++ run
jobs_snoc runs run = jobs_append runs (run ∷ []) ∙ ap (λ l. jobs_of runs ++ l) (append-nil run)

pub all_snoc : (runs : List (List Job)) (run : List Job)
    → All HasJobs runs
    → HasJobs run
    → All HasJobs (runs ++ run ∷ [])
all_snoc [] run all has zero d low = has
all_snoc [] run all has (suc k) d low = absurd (omega arith)
all_snoc (x ∷ xs) run all has zero d low = all zero d (omega arith)
all_snoc (x ∷ xs) run all has (suc k) d low =
    all_snoc xs run (λ k d low. all (suc k) d (omega arith)) has k d (omega arith)

all_behind : (runs more : List (List Job)) → All HasJobs (runs ++ more) → All HasJobs more
all_behind [] more all = all
all_behind (x ∷ xs) more all = all_behind xs more (λ k d low. all (suc k) d (omega arith))

-- runs have at least as many jobs as they are
jobs_at_least : (runs : List (List Job)) → All HasJobs runs → length runs ≤ length (jobs_of runs)
jobs_at_least [] all = omega arith
jobs_at_least (x ∷ xs) all =
    let more = jobs_at_least xs (λ k d low. all (suc k) d (omega arith)) in
    let one : 0 < length x = all zero x (omega arith) in
    let e = length-append x (jobs_of xs) in
    omega arith

-- a queue that is full of runs lacks room for one more
pub full_lacks : (capacity : ℕ) (pushed popped waiting : List (List Job)) (run : List Job)
    → All HasJobs pushed
    → HasJobs run
    → length waiting ≡ capacity
    → pushed ≡ popped ++ waiting
    → LackedRoom capacity (jobs_of pushed) (length run)
full_lacks capacity pushed popped waiting run all has full is = (
  jobs_of popped,
  jobs_of waiting,
  ap jobs_of is ∙ jobs_append popped waiting,
  (let least = jobs_at_least waiting (all_behind popped waiting (subst (All HasJobs) is all)) in omega arith),
)

total : (runs : List (List Job)) → total_of (map length runs) ≡ length (jobs_of runs)
total [] = refl
total (x ∷ xs) =
    sum_by-cons (λ n. n) (length x) (map length xs)
    ∙ ap (λ (n : ℕ). length x + n) (total xs)
    ∙ sym (length-append x (jobs_of xs))

module _ (most : ℕ) (pushed : List (List Job)) (lengths : List ℕ) (jobs : ℕ) (are : AreLastLengths pushed lengths) where
  split : jobs_of pushed ≡ jobs_of are.0 ++ jobs_of are.1
  split = ap jobs_of are.2 ∙ jobs_append are.0 are.1

  counted : total_of lengths ≡ length (jobs_of are.1)
  counted = ap total_of are.3 ∙ total are.1

  -- what a count answers
  pub has_room : (answer : Bool)
      → answer ≡ nat_le (total_of lengths + jobs) most
      → answer ≡ true
      → (total_of lengths + jobs ≤ most) × HadRoom most (jobs_of pushed) jobs
  has_room answer told is =
      let low : total_of lengths + jobs ≤ most = grind (arith, nat_tests, told, is) in
      (low, (jobs_of are.0, jobs_of are.1, split, (let e = counted in omega arith)))

  pub lacked_room : (answer : Bool)
      → answer ≡ nat_le (total_of lengths + jobs) most
      → answer ≡ false
      → LackedRoom most (jobs_of pushed) jobs
  lacked_room answer told is =
      let high : most < total_of lengths + jobs = grind (arith, nat_tests, told, is) in
      (jobs_of are.0, jobs_of are.1, split, (let e = counted in omega arith))

-- the lengths of the last runs, one run later
map_snoc : (runs : List (List Job)) (run : List Job)
    → map length (runs ++ run ∷ []) ≡ map length runs ++ length run ∷ []
map_snoc [] run = refl
map_snoc (x ∷ xs) run = ap (λ l. length x ∷ l) (map_snoc xs run)

pub last_snoc : (pushed : List (List Job)) (lengths : List ℕ) (run : List Job)
    → AreLastLengths pushed lengths
    → AreLastLengths (pushed ++ run ∷ []) (lengths ++ length run ∷ [])
last_snoc pushed lengths run are = (
  are.0,
  are.1 ++ run ∷ [],
  ap (λ l. l ++ run ∷ []) are.2 ∙ append_assoc are.0 are.1 (run ∷ []),
  ap (λ l. l ++ length run ∷ []) are.3 ∙ sym (map_snoc are.1 run),
)

-- and with the first of them forgotten
last_drop : (n : ℕ) (before last : List (List Job)) → AreLastLengths (before ++ last) (drop n (map length last))
last_drop zero before last = (before, last, refl, refl)
last_drop (suc n) before [] = (before, [], refl, refl)
last_drop (suc n) before (x ∷ xs) =
    subst (λ l. AreLastLengths l (drop n (map length xs))) (append_assoc before (x ∷ []) xs)
    (last_drop n (before ++ x ∷ []) xs)

pub last_kept : (n : ℕ) (pushed : List (List Job)) (lengths : List ℕ)
    → AreLastLengths pushed lengths
    → AreLastLengths pushed (drop n lengths)
last_kept n pushed lengths are =
    subst (λ l. AreLastLengths l (drop n lengths)) (sym are.2)
    (subst (λ l. AreLastLengths (are.0 ++ are.1) (drop n l)) (sym are.3) (last_drop n are.0 are.1))

-- a list that is read from one place further on
pub goes_on : (l : List Job) (n : ℕ) → n + 1 < length l → GoesOn (drop n l) (drop (n + 1) l)
goes_on [] n low = absurd (omega arith)
goes_on (x ∷ []) n low = absurd (omega arith)
goes_on (x ∷ y ∷ l) zero low = (x, y, l, refl, refl)
goes_on (x ∷ y ∷ l) (suc n) low =
    subst (λ (k : ℕ). GoesOn (drop n (y ∷ l)) (drop k (x ∷ y ∷ l))) {x = suc (n + 1)} {y = suc n + 1} (omega arith)
    (goes_on (y ∷ l) n (omega arith))

-- so many places further on the list still goes on
pub stays_within : (l : List Job) (n count : ℕ)
    → n < length l
    → count ≤ length (drop 1 (drop n l))
    → n + count < length l
stays_within l n count low few = let e = length-drop 1 (drop n l) in let f = length-drop n l in omega arith

-- ---- counts

-- lengths that are not 0 are at most their total
pub fewer : (lengths : List ℕ) → All (λ n. 0 < n) lengths → length lengths ≤ total_of lengths
fewer [] all = omega arith
fewer (x ∷ xs) all =
    let more = fewer xs (λ k d low. all (suc k) d (omega arith)) in
    let one : 0 < x = all zero x (omega arith) in
    let e = sum_by-cons (λ n. n) x xs in
    omega arith

pub total_snoc : (lengths : List ℕ) (n : ℕ) → total_of (lengths ++ n ∷ []) ≡ total_of lengths + n
total_snoc lengths n =
    let e = sum_by-append (λ n. n) lengths (n ∷ []) in
    let f : total_of (n ∷ []) ≡ n + 0 = sum_by-cons (λ n. n) n [] in
    omega arith

pub some_snoc : (lengths : List ℕ) (n : ℕ) → All (λ n. 0 < n) lengths → 0 < n → All (λ n. 0 < n) (lengths ++ n ∷ [])
some_snoc [] n all has zero d low = has
some_snoc [] n all has (suc k) d low = absurd (omega arith)
some_snoc (x ∷ xs) n all has zero d low = all zero d (omega arith)
some_snoc (x ∷ xs) n all has (suc k) d low =
    some_snoc xs n (λ k d low. all (suc k) d (omega arith)) has k d (omega arith)

pub total_first : (n : ℕ) (lengths : List ℕ) → total_of (n ∷ lengths) ≡ n + total_of lengths
total_first n lengths = sum_by-cons (λ n. n) n lengths

pub some_rest : (n : ℕ) (lengths : List ℕ) → All (λ n. 0 < n) (n ∷ lengths) → All (λ n. 0 < n) lengths
some_rest n lengths all k d low = all (suc k) d (omega arith)

-- one more is forgotten
pub drop_more : (lengths : List ℕ) (n : ℕ) → drop 1 (drop n lengths) ≡ drop (n + 1) lengths
drop_more [] zero = refl
drop_more [] (suc n) = ap (λ (k : ℕ). drop {A = ℕ} k []) {x = suc (n + 1)} {y = suc n + 1} (omega arith)
drop_more (x ∷ xs) zero = refl
drop_more (x ∷ xs) (suc n) =
    drop_more xs n ∙ ap (λ (k : ℕ). drop k (x ∷ xs)) {x = suc (n + 1)} {y = suc n + 1} (omega arith)

-- a count without its first run
pub forgets : (most jobs capacity : ℕ) (n : ℕ) (lengths : List ℕ)
    → IsCount most jobs (n ∷ lengths) capacity
    → IsCount most (jobs - n) lengths capacity
forgets most jobs capacity n lengths is =
    let e = is.total in
    let f = total_first n lengths in
    let most' = is.within in
    record {
      total = omega arith;
      within = omega arith;
      some = some_rest n lengths is.some;
      room = is.room;
    }
