-- Jobs that a run goes on with.
use Rattle.std.proofs.Common.{◌≡◌, ℕ, zero, suc, ◌+◌, ◌-◌, ◌<◌, ◌≤◌, List, [], ◌∷◌, ◌++◌, length, take, drop, slice_range, Some, refl, sym, ap, subst, ◌∙◌, ⊎_elim, arith}
use Rattle.std.specs.Prelude.{slice_get}
use Rattle.std.proofs.lemmas.Bool.{cases_lt}
use Rattle.std.proofs.lemmas.Option.{same_Some, none-some, slice_get_within}
use Rattle.subj.specs.Messages.{Content}
use Rattle.subj.specs.declared.jobs.Job.{Job}
use Rattle.job_block.specs.declared.kept.Origin.{Origin}
use Rattle.job_block.specs.Publications.{IsShort}
use Rattle.job_block.specs.Blocks.{AreAlike, AreNumberedFrom, FollowsAlike, GoesOnAt, IsLast, job_of}

-- ---- one more

got_before : (jobs more : List Job) (k : ℕ) (job : Job) → slice_get jobs k ≡ Some job
    → slice_get (jobs ++ more) k ≡ Some job
got_before [] more k job is = absurd (none-some job is)
got_before (first ∷ jobs) more zero job is = is
got_before (first ∷ jobs) more (suc k) job is = got_before jobs more k job is

got_put : (jobs : List Job) (job : Job) → slice_get (jobs ++ job ∷ []) (length jobs) ≡ Some job
got_put [] job = refl
got_put (first ∷ jobs) job = got_put jobs job

pub goes_on_later : (jobs more : List Job) (place : ℕ) → GoesOnAt jobs place → GoesOnAt (jobs ++ more) place
goes_on_later jobs more place goes = record {
  before = goes.before;
  job = goes.job;
  behind = goes.behind;
  stands_before = got_before jobs more (place - 1) goes.before goes.stands_before;
  stands = got_before jobs more place goes.job goes.stands;
  alike = goes.alike;
}

pub goes_on_put : (jobs : List Job) (before job : Job) → slice_get jobs (length jobs - 1) ≡ Some before
    → FollowsAlike before job → GoesOnAt (jobs ++ job ∷ []) (length jobs)
goes_on_put jobs before job last alike =
    let within = slice_get_within jobs (length jobs - 1) before last in
    record {
      before = before;
      job = job;
      behind = omega (arith, within);
      stands_before = got_before jobs (job ∷ []) (length jobs - 1) before last;
      stands = got_put jobs job;
      alike = alike;
    }

-- behind a last job that is like it
pub goes_on_last : (turn : ℕ) (jobs : List Job) (origin : Origin) (content : Content) (queues : List (List ℕ))
    → AreNumberedFrom turn jobs
    → IsLast origin.publisher content.subject origin.echo queues jobs
    → IsShort content
    → GoesOnAt (jobs ++ job_of origin (turn + length jobs) content queues ∷ []) (length jobs)
goes_on_last turn jobs origin content queues numbered last short =
    let within = slice_get_within jobs (length jobs - 1) last.last last.stands in
    let behind = numbered (length jobs - 1) last.last last.stands in
    goes_on_put jobs last.last (job_of origin (turn + length jobs) content queues) last.stands (record {
      turn = omega (arith, within, behind);
      queues = sym last.queues_same;
      plain = short.plain;
      short = short.short;
      subject = sym last.subject_same;
      publisher = sym last.publisher_same;
      echo = sym last.echo_same;
    })

-- ---- those in a part of a block

got_back : (n : ℕ) (jobs : List Job) (k : ℕ) (job : Job) → slice_get (take n jobs) k ≡ Some job
    → (k < n) × (slice_get jobs k ≡ Some job)
got_back zero jobs k job is = absurd (none-some job is)
got_back (suc n) [] k job is = absurd (none-some job is)
got_back (suc n) (first ∷ jobs) zero job is = (omega arith, is)
got_back (suc n) (first ∷ jobs) (suc k) job is =
    let back = got_back n jobs k job is in
    let low = back.0 in (omega (arith, low), back.1)

got_behind : (n : ℕ) (jobs : List Job) (k p : ℕ) → p ≡ n + k → slice_get (drop n jobs) k ≡ slice_get jobs p
got_behind zero jobs k p is = let same : k ≡ p = omega (arith, is) in ap (slice_get jobs) same
got_behind (suc n) [] k p is = refl
got_behind (suc n) (job ∷ jobs) k zero is = absurd (omega (arith, is))
got_behind (suc n) (job ∷ jobs) k (suc p) is = got_behind n jobs k p (omega (arith, is))

got_in : (jobs : List Job) (start end count k p : ℕ) (job : Job) → p ≡ start + k
    → slice_get (take count (slice_range jobs start end)) k ≡ Some job → (k < count) × (slice_get jobs p ≡ Some job)
got_in jobs start end count k p job at is =
    let one = got_back count (slice_range jobs start end) k job is in
    let two = got_back (end - start) (drop start jobs) k job one.1 in
    (one.0, sym (got_behind start jobs k p at) ∙ two.1)

-- a run goes on at these places
abbrev pub GoOnTo : List Job → ℕ → ℕ → Type 0
GoOnTo jobs start end = (place : ℕ) → start < place → place < end → GoesOnAt jobs place

pub none_yet : (jobs : List Job) (start : ℕ) → GoOnTo jobs start (start + 1)
none_yet jobs start place low high = absurd (omega (arith, low, high))

pub one_more : (jobs : List Job) (start end : ℕ) → GoOnTo jobs start end → GoesOnAt jobs end
    → GoOnTo jobs start (end + 1)
one_more jobs start end before goes place low high =
    ⊎_elim (λ (below : place < end). before place low below)
    (λ (above : end ≤ place). let same : end ≡ place = omega (arith, high, above) in subst (GoesOnAt jobs) same goes)
    (cases_lt place end)

pub alike_in : (jobs : List Job) (start end last : ℕ) → GoOnTo jobs start last
    → AreAlike (take (last - start) (slice_range jobs start end))
alike_in jobs start end last goes k before job at at_next =
    let count = last - start in
    let here = got_in jobs start end count k (start + k) before refl at in
    let next = got_in jobs start end count (k + 1) (start + k + 1) job (omega arith) at_next in
    let low = next.0 in
    let goes_here = goes (start + k + 1) (omega arith) (omega (arith, low)) in
    let place : start + k ≡ start + k + 1 - 1 = omega arith in
    let first : goes_here.before ≡ before =
    same_Some goes_here.before before
    (sym goes_here.stands_before ∙ sym (ap (slice_get jobs) place) ∙ here.1) in
    let second : goes_here.job ≡ job = same_Some goes_here.job job (sym goes_here.stands ∙ next.1) in
    subst (λ (b : Job). FollowsAlike b job) first
    (subst (λ (j : Job). FollowsAlike goes_here.before j) second goes_here.alike)
