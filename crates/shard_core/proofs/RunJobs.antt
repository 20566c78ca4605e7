-- Jobs that go together: those of which a run goes on with each but the first.
use Rattle.std.proofs.Common.{◌≡◌, ℕ, zero, suc, ◌+◌, ◌-◌, ◌<◌, ◌≤◌, List, [], ◌∷◌, length, take, Some, refl, ap, sym, subst, ◌∙◌, arith}
use Rattle.std.specs.Prelude.{slice_get}
use Rattle.std.proofs.lemmas.Option.{same_Some}
use Rattle.std.proofs.lemmas.List.{length-take-le}
use Rattle.list_laws.specs.Lists.{Each}
use Rattle.list_laws.proofs.Lists.{each_cons, each_one}
use Rattle.subj.specs.declared.jobs.Job.{Job}
use Rattle.job_block.specs.Blocks.{AreAlike, FollowsAlike}
use Rattle.shard_core.specs.Lines.{Turns}
use Rattle.shard_core.specs.RunSteps.{GoesWith, GoTogether}

-- behind the first of them a run goes on likewise
pub alike_behind : (before : Job) (jobs : List Job) → AreAlike (before ∷ jobs) → AreAlike jobs
alike_behind before jobs alike k one other first second =
    alike (suc k) one other first
    (ap (slice_get (before ∷ jobs)) {x = suc k + 1} {y = suc (k + 1)} (omega arith) ∙ second)

goes_on : (first before job : Job) → GoesWith first before → FollowsAlike before job → GoesWith first job
goes_on first before job goes follows = record {
  unnamed = follows.queues ∙ goes.unnamed;
  plain = follows.plain;
  subject = follows.subject ∙ goes.subject;
  publisher = follows.publisher ∙ goes.publisher;
  echo = follows.echo ∙ goes.echo;
}

each_goes : (first before : Job) (jobs : List Job) → GoesWith first before → AreAlike (before ∷ jobs)
    → Each (GoesWith first) (before ∷ jobs)
each_goes first before [] goes alike = each_one (GoesWith first) before goes
each_goes first before (job ∷ jobs) goes alike =
    each_cons (GoesWith first) before (job ∷ jobs) goes
    (each_goes first job jobs (goes_on first before job goes (alike 0 before job refl refl))
    (alike_behind before (job ∷ jobs) alike))

turns_on : (begun : ℕ) (before last : Job) (jobs : List Job) → AreAlike (before ∷ jobs) → begun ≡ before.turn
    → slice_get (before ∷ jobs) (length jobs) ≡ Some last → Turns begun jobs last.turn
turns_on begun before last [] alike is ends = is ∙ ap (λ (job : Job). job.turn) (same_Some before last ends)
turns_on begun before last (job ∷ jobs) alike is ends =
    let next : job.turn ≡ before.turn + 1 = (alike 0 before job refl refl).turn in (
      omega (arith, next, is),
      turns_on (suc begun) job last jobs (alike_behind before (job ∷ jobs) alike) (omega (arith, next, is)) ends,
    )

together : (first last : Job) (finished : ℕ) (jobs : List Job) → slice_get jobs 0 ≡ Some first
    → GoesWith first first → first.turn ≡ finished + 1 → AreAlike jobs
    → slice_get jobs (length jobs - 1) ≡ Some last → GoTogether first finished last.turn jobs
together first last finished [] begins goes turn alike ends = absurd (cc (begins))
together first last finished (job ∷ jobs) begins goes turn alike ends =
    let same : job ≡ first = same_Some job first begins in
    let job_turn : job.turn ≡ finished + 1 = ap (λ (j : Job). j.turn) same ∙ turn in
    let place : suc (length jobs) - 1 ≡ length jobs = omega arith in
    record {
      turns = (
        omega (arith, job_turn),
        turns_on (suc finished) job last jobs alike (omega (arith, job_turn))
            (subst (λ (n : ℕ). slice_get (job ∷ jobs) n ≡ Some last) place ends),
      );
      alike = each_goes first job jobs (subst (GoesWith first) (sym same) goes) alike;
    }

pub at_front : (n : ℕ) (jobs : List Job) (k : ℕ) → k < n → slice_get (take n jobs) k ≡ slice_get jobs k
at_front zero jobs k low = absurd (omega arith)
at_front (suc n) [] k low = refl
at_front (suc n) (job ∷ jobs) zero low = refl
at_front (suc n) (job ∷ jobs) (suc k) low = at_front n jobs k (omega (arith, low))

-- the first so many of them, where a run may begin with the first
pub run_together : (first last : Job) (finished count : ℕ) (jobs : List Job) → slice_get jobs 0 ≡ Some first
    → GoesWith first first → first.turn ≡ finished + 1 → 0 < count → count ≤ length jobs
    → AreAlike (take count jobs) → slice_get jobs (count - 1) ≡ Some last
    → GoTogether first finished last.turn (take count jobs)
run_together first last finished count jobs begins goes turn some few alike ends =
    let len : length (take count jobs) - 1 ≡ count - 1 =
    ap (λ (n : ℕ). n - 1) (length-take-le count jobs few) in
    together first last finished (take count jobs) (at_front count jobs 0 some ∙ begins) goes turn alike
    (ap (slice_get (take count jobs)) len ∙ at_front count jobs (count - 1) (omega (arith, some)) ∙ ends)

pub none_together : (first : Job) (finished : ℕ) → GoTogether first finished finished []
none_together first finished = record { turns = refl; alike = λ job there. absurd there }

-- the last turn is as many behind as there are jobs
pub turns_end : (begun last : ℕ) (jobs : List Job) → Turns begun jobs last → last ≡ begun + length jobs
turns_end begun last [] turns = omega (arith, turns)
turns_end begun last (job ∷ jobs) turns = let rest = turns_end (suc begun) last jobs turns.1 in omega (arith, rest)
