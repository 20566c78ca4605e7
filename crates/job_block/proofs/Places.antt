-- The jobs of a block, each at its place.
use Rattle.std.proofs.Common.{◌≡◌, ℕ, zero, suc, ◌+◌, ◌-◌, ◌*◌, ◌<◌, ◌≤◌, List, [], ◌∷◌, ◌++◌, length, get_or, Some, refl, sym, ap, subst, ◌∙◌, arith, length-append}
use Rattle.std.specs.Prelude.{Bool, ◌==◌, not, Option, None, true, IfSome, slice_get}
use Rattle.std.proofs.lemmas.Bool.{not-true, true≢false}
use Rattle.std.proofs.Math.Nat.{mul-le-mul_right}
use Rattle.std.proofs.lemmas.Option.{same_Some, none-some, get_or_from_slice_get, slice_get_read, slice_get_within}
use Rattle.subj.specs.Messages.{Content}
use Rattle.subj.specs.declared.jobs.Job.{Job}
use Rattle.subj.specs.declared.limits.TheConstants.{MAX_COUNTER}
use Rattle.job_block.specs.Publications.{IsPublishable, IsShort}
use Rattle.job_block.specs.declared.kept.KeptJob.{KeptJob}
use Rattle.job_block.specs.declared.kept.KeptMessage.{KeptMessage}
use Rattle.job_block.specs.declared.kept.KeptMessage.TheVariants.{InText, Shared}
use Rattle.job_block.specs.Spans.{Extends, IsPart}
use Rattle.job_block.specs.declared.spans.Span.{Span}
use Rattle.job_block.specs.declared.kept.Origin.{Origin}
use Rattle.job_block.specs.Kept.{AreKept, IsBlock, IsKeptAs, IsKeptMessage, IsOfLast, job_in, jobs_in, message_in, shared_in}
use Rattle.job_block.specs.Blocks.{AreNumberedFrom, Block, FollowsAlike, GoesOnAt, IsLast, IsPushed, job_of, turn_behind}
use Rattle.job_block.proofs.Texts.{spans_later, content_later}
use Rattle.job_block.proofs.Runs.{goes_on_last, goes_on_later, goes_on_put}

-- ---- at a place

pub jobs_length : (text : List ℕ) (turn : ℕ) (kept : List KeptJob) → length (jobs_in text turn kept) ≡ length kept
jobs_length text turn [] = refl
jobs_length text turn (job ∷ kept) = ap (λ n. suc n) (jobs_length text (turn + 1) kept)

job_at : (text : List ℕ) (turn : ℕ) (kept : List KeptJob) (k : ℕ) (d : KeptJob) → k < length kept
    → slice_get (jobs_in text turn kept) k ≡ Some (job_in text (turn + k) (get_or kept k d))
job_at text turn [] k d lt = absurd (omega arith)
job_at text turn (job ∷ kept) zero d lt = ap (λ n. Some (job_in text n job)) (omega arith)
job_at text turn (job ∷ kept) (suc k) d lt =
    job_at text (turn + 1) kept k d (omega arith)
    ∙ ap (λ n. Some (job_in text n (get_or kept k d))) (omega arith)

-- what is true of the job as it is kept is true of the job that is seen
pub at_place : (text : List ℕ) (turn : ℕ) (kept : List KeptJob) (k : ℕ) (d : KeptJob) (jobs : List Job)
    (P : Job → Type 0)
    → jobs_in text turn kept ≡ jobs
    → k < length jobs
    → P (job_in text (turn + k) (get_or kept k d))
    → IfSome (slice_get jobs k) P
at_place text turn kept k d jobs P seen lt is =
    let count : length jobs ≡ length kept = sym (ap (λ (l : List Job). length l) seen) ∙ jobs_length text turn kept in
    subst (λ (l : List Job). IfSome (slice_get l k) P) seen
    (subst (λ job. IfSome job P) (sym (job_at text turn kept k d (omega (arith, count, lt)))) is)

pub job_seen : (text : List ℕ) (turn : ℕ) (kept : List KeptJob) (k : ℕ) (d : KeptJob) (jobs : List Job)
    → jobs_in text turn kept ≡ jobs → k < length jobs
    → slice_get jobs k ≡ Some (job_in text (turn + k) (get_or kept k d))
job_seen text turn kept k d jobs seen lt =
    let count : length jobs ≡ length kept = sym (ap (λ (l : List Job). length l) seen) ∙ jobs_length text turn kept in
    sym (ap (λ (l : List Job). slice_get l k) seen) ∙ job_at text turn kept k d (omega (arith, count, lt))

-- how the job at a place is kept
pub kept_there : (text : List ℕ) (turn : ℕ) (kept : List KeptJob) (k : ℕ) (d : KeptJob) (jobs : List Job)
    → IsBlock text turn kept
    → jobs_in text turn kept ≡ jobs
    → k < length jobs
    → d ≡ get_or kept k d
    → IsKeptMessage text d.message × (turn + k ≤ MAX_COUNTER)
kept_there text turn kept k d jobs is seen lt there =
    let count : length jobs ≡ length kept = sym (ap (λ (l : List Job). length l) seen) ∙ jobs_length text turn kept in
    let below : k < length kept = omega (arith, count, lt) in
    let turns = is.turns in (
      subst (λ (j : KeptJob). IsKeptMessage text j.message) (sym there) (is.each k d below),
      omega (arith, below, turns),
    )

-- what is true of the job that is kept there is true of the one that is seen
pub at_kept : (text : List ℕ) (turn : ℕ) (kept : List KeptJob) (k : ℕ) (d : KeptJob) (jobs : List Job)
    (P : Job → Type 0)
    → jobs_in text turn kept ≡ jobs
    → k < length jobs
    → d ≡ get_or kept k d
    → P (job_in text (turn + k) d)
    → IfSome (slice_get jobs k) P
at_kept text turn kept k d jobs P seen lt there is =
    at_place text turn kept k d jobs P seen lt (subst (λ (j : KeptJob). P (job_in text (turn + k) j)) there is)

pub seen_there : (text : List ℕ) (turn : ℕ) (kept : List KeptJob) (k : ℕ) (d : KeptJob) (jobs : List Job)
    → jobs_in text turn kept ≡ jobs → k < length jobs → d ≡ get_or kept k d
    → slice_get jobs k ≡ Some (job_in text (turn + k) d)
seen_there text turn kept k d jobs seen lt there =
    job_seen text turn kept k d jobs seen lt ∙ ap (λ (j : KeptJob). Some (job_in text (turn + k) j)) (sym there)

pub numbered : (text : List ℕ) (turn : ℕ) (kept : List KeptJob) → AreNumberedFrom turn (jobs_in text turn kept)
numbered text turn [] k job is = absurd (none-some job is)
numbered text turn (first ∷ kept) zero job is =
    sym (ap (λ (j : Job). j.turn) (same_Some (job_in text turn first) job is)) ∙ omega arith
numbered text turn (first ∷ kept) (suc k) job is = numbered text (turn + 1) kept k job is ∙ omega arith

-- the last one, and others, by their places

pub seen_at : (text : List ℕ) (turn : ℕ) (kept : List KeptJob) (k : ℕ) (job : KeptJob) → slice_get kept k ≡ Some job
    → slice_get (jobs_in text turn kept) k ≡ Some (job_in text (turn + k) job)
seen_at text turn [] k job is = absurd (none-some job is)
seen_at text turn (first ∷ kept) zero job is =
    ap (λ (j : KeptJob). Some (job_in text turn j)) (same_Some first job is)
    ∙ ap (λ n. Some (job_in text n job)) {x = turn} {y = turn + 0} (omega arith)
seen_at text turn (first ∷ kept) (suc k) job is =
    seen_at text (turn + 1) kept k job is
    ∙ ap (λ n. Some (job_in text n job)) {x = turn + 1 + k} {y = turn + suc k} (omega arith)

pub kept_at : (text : List ℕ) (kept : List KeptJob) (k : ℕ) (job : KeptJob) → AreKept text kept
    → slice_get kept k ≡ Some job → IsKeptMessage text job.message
kept_at text kept k job are is =
    subst (λ (j : KeptJob). IsKeptMessage text j.message) (get_or_from_slice_get kept k job job is)
    (are k job (slice_get_within kept k job is))

-- the part of the text where the last job's subject stands, where that is of this subject
pub last_part : (text : List ℕ) (turn : ℕ) (kept : List KeptJob) (jobs : List Job) (span : Option Span)
    (publisher : Option ℕ) (subject : List ℕ) (echo : Bool) (queues : List (List ℕ))
    → jobs_in text turn kept ≡ jobs
    → AreKept text kept
    → IfSome span (λ s. (t : List ℕ) → AreKept t kept → IsOfLast t kept s)
    → (0 < length jobs → IsLast publisher subject echo queues jobs)
    → IfSome span (λ s. IsPart text s subject)
last_part text turn kept jobs None publisher subject echo queues seen are of is = tt
last_part text turn kept jobs (Some span) publisher subject echo queues seen are of is =
    let there = of text are in
    let within = slice_get_within kept (length kept - 1) there.last there.stands in
    let count : length jobs ≡ length kept = sym (ap (λ (l : List Job). length l) seen) ∙ jobs_length text turn kept in
    let last = is (omega (arith, count, within)) in
    let at : slice_get jobs (length kept - 1) ≡ Some (job_in text (turn + (length kept - 1)) there.last) =
    sym (ap (λ (l : List Job). slice_get l (length kept - 1)) seen)
    ∙ seen_at text turn kept (length kept - 1) there.last there.stands in
    let stands : slice_get jobs (length kept - 1) ≡ Some last.last =
    ap (λ n. slice_get jobs (n - 1)) (sym count) ∙ last.stands in
    let same : job_in text (turn + (length kept - 1)) there.last ≡ last.last =
    same_Some (job_in text (turn + (length kept - 1)) there.last) last.last (sym at ∙ stands) in
    subst (IsPart text span) (ap (λ (j : Job). j.message.subject) same ∙ last.subject_same) there.subject

-- a run goes on, behind the last job, with one that is like it as it is kept
pub goes_on_kept : (text : List ℕ) (turn : ℕ) (kept : List KeptJob) (last : KeptJob) (block : Block) (origin : Origin)
    (content : Content) (queues : List (List ℕ))
    → turn ≡ block.first_turn
    → jobs_in text turn kept ≡ block.jobs
    → slice_get kept (length kept - 1) ≡ Some last
    → ((n : ℕ) → FollowsAlike (job_in text n last) (job_of origin (n + 1) content queues))
    → GoesOnAt (block.jobs ++ job_of origin (turn_behind block) content queues ∷ []) (length block.jobs)
goes_on_kept text turn kept last block origin content queues first seen is alike =
    let place = length kept - 1 in
    let within = slice_get_within kept place last is in
    let count : length block.jobs ≡ length kept =
    sym (ap (λ (l : List Job). length l) seen) ∙ jobs_length text turn kept in
    let at : slice_get block.jobs (length block.jobs - 1) ≡ Some (job_in text (turn + place) last) =
    ap (λ n. slice_get block.jobs (n - 1)) count
    ∙ sym (ap (λ (l : List Job). slice_get l place) seen)
    ∙ seen_at text turn kept place last is in
    let behind : turn + place + 1 ≡ block.first_turn + length block.jobs = omega (arith, within, count, first) in
    goes_on_put block.jobs (job_in text (turn + place) last) (job_of origin (turn_behind block) content queues) at
    (subst (λ (n : ℕ). FollowsAlike (job_in text (turn + place) last) (job_of origin n content queues)) behind
    (alike (turn + place)))

-- ---- one more

kept_later : (old new : List ℕ) (message : KeptMessage) → Extends old new → IsKeptMessage old message
    → IsKeptMessage new message × (message_in new message ≡ message_in old message)
kept_later old new (InText spans) grows is =
    let same = content_later old new spans grows is.0 in (
      (spans_later old new spans grows is.0, subst IsPublishable (sym same) is.1),
      same,
    )
kept_later old new (Shared content) grows is = (is, refl)

all_later : (old new : List ℕ) (kept : List KeptJob) → Extends old new → AreKept old kept → AreKept new kept
all_later old new kept grows are k d lt = (kept_later old new (get_or kept k d).message grows (are k d lt)).0

abbrev pub job_with : ℕ → KeptJob → Content → Job
job_with turn kept content = record {
  turn = turn;
  id = kept.id;
  message = content;
  publisher = kept.publisher;
  echo = kept.echo;
  queues = kept.queues;
}

jobs_later : (old new : List ℕ) (turn : ℕ) (kept : List KeptJob) → Extends old new → AreKept old kept
    → jobs_in new turn kept ≡ jobs_in old turn kept
jobs_later old new turn [] grows are = refl
jobs_later old new turn (job ∷ kept) grows are =
    ap (λ (content : Content). job_with turn job content ∷ jobs_in new (turn + 1) kept)
    (kept_later old new job.message grows (are zero job (omega arith))).1
    ∙ ap (λ (jobs : List Job). job_in old turn job ∷ jobs)
    (jobs_later old new (turn + 1) kept grows (λ k d lt. are (suc k) d (omega (arith, lt))))

jobs_more : (text : List ℕ) (turn : ℕ) (kept : List KeptJob) (last : KeptJob)
    → jobs_in text turn (kept ++ last ∷ []) ≡ jobs_in text turn kept ++ job_in text (turn + length kept) last ∷ []
jobs_more text turn [] last = ap (λ n. job_in text n last ∷ []) (omega arith)
jobs_more text turn (job ∷ kept) last =
    ap (λ jobs. job_in text turn job ∷ jobs)
    (jobs_more text (turn + 1) kept last
    ∙ ap (λ n. jobs_in text (turn + 1) kept ++ job_in text n last ∷ []) (omega arith))

all_more : (text : List ℕ) (kept : List KeptJob) (last : KeptJob) → AreKept text kept → IsKeptMessage text last.message
    → AreKept text (kept ++ last ∷ [])
all_more text [] last are is zero d lt = is
all_more text [] last are is (suc k) d lt = absurd (omega arith)
all_more text (job ∷ kept) last are is zero d lt = are zero job (omega arith)
all_more text (job ∷ kept) last are is (suc k) d lt =
    all_more text kept last (λ n e below. are (suc n) e (omega (arith, below))) is k d (omega (arith, lt))

-- what is true at each place, and of the one that was put behind at the end, is true at each place then
at_end : (kept : List KeptJob) (last : KeptJob) (P : ℕ → KeptJob → Type 0)
    → ((k : ℕ) (job : KeptJob) → slice_get kept k ≡ Some job → P k job)
    → P (length kept) last
    → (k : ℕ) (job : KeptJob) → slice_get (kept ++ last ∷ []) k ≡ Some job → P k job
at_end [] last P each here zero job is = subst (P zero) (same_Some last job is) here
at_end [] last P each here (suc k) job is = absurd (none-some job is)
at_end (first ∷ kept) last P each here zero job is = each zero job is
at_end (first ∷ kept) last P each here (suc k) job is =
    at_end kept last (λ n j. P (suc n) j) (λ n j at. each (suc n) j at) here k job is

-- a block, as it is kept and as it is seen
pub record IsSeen (text : List ℕ) (turn : ℕ) (kept : List KeptJob) (block : Block) : Type 0 where
  pub first : turn ≡ block.first_turn
  pub jobs : jobs_in text turn kept ≡ block.jobs
  pub is : IsBlock text turn kept

-- a job that was put behind
pub record IsMore (old new : List ℕ) (kept more : List KeptJob) (last : KeptJob) (block : Block)
    (content : Content) : Type 0 where
  pub grows : Extends old new
  pub put : more ≡ kept ++ last ∷ []
  pub message : IsKeptAs new last.message content
  pub goes : last.goes_on ≡ true
      → GoesOnAt (block.jobs ++ job_with (turn_behind block) last content ∷ []) (length block.jobs)

-- where a run goes on with it, behind the jobs as they were kept
goes_on_behind : (turn first : ℕ) (kept seen : List Job) (origin : Origin) (content : Content)
    (queues : List (List ℕ))
    → turn ≡ first
    → kept ≡ seen
    → GoesOnAt (kept ++ job_of origin (turn + length kept) content queues ∷ []) (length kept)
    → GoesOnAt (seen ++ job_of origin (first + length seen) content queues ∷ []) (length seen)
goes_on_behind turn first kept seen origin content queues same_turn same goes =
    subst (λ (l : List Job). GoesOnAt (l ++ job_of origin (first + length l) content queues ∷ []) (length l)) same
    (subst (λ (n : ℕ). GoesOnAt (kept ++ job_of origin (n + length kept) content queues ∷ []) (length kept)) same_turn
    goes)

abbrev pub kept_of : Origin → List (List ℕ) → Bool → KeptMessage → KeptJob
kept_of origin queues goes_on message = record {
  id = origin.id;
  publisher = origin.publisher;
  echo = origin.echo;
  goes_on = goes_on;
  queues = queues;
  message = message;
}

-- a job that was put behind, where a place had been kept for it
pub put_more : (old new : List ℕ) (turn : ℕ) (kept reserved more : List KeptJob) (origin : Origin)
    (queues : List (List ℕ)) (goes_on : Bool) (message : KeptMessage) (block : Block) (told content : Content)
    → IsSeen old turn kept block
    → reserved ≡ kept
    → more ≡ reserved ++ kept_of origin queues goes_on message ∷ []
    → Extends old new
    → IsKeptAs new message content
    → told ≡ content
    → (goes_on ≡ true
    → GoesOnAt (jobs_in old turn reserved
    ++ job_of origin (turn + length (jobs_in old turn reserved)) told queues ∷ [])
    (length (jobs_in old turn reserved)))
    → IsMore old new kept more (kept_of origin queues goes_on message) block content
put_more old new turn kept reserved more origin queues goes_on message block told content seen same put grows is e on =
    let jobs = jobs_in old turn reserved in
    record {
      grows = grows;
      put = put ∙ ap (λ (l : List KeptJob). l ++ kept_of origin queues goes_on message ∷ []) same;
      message = is;
      goes = λ g.
          goes_on_behind turn block.first_turn jobs block.jobs origin content queues seen.first
          (ap (jobs_in old turn) same ∙ seen.jobs)
          (subst (λ (c : Content). GoesOnAt (jobs ++ job_of origin (turn + length jobs) c queues ∷ []) (length jobs))
          e (on g));
    }

-- a list that is not told empty has items
pub some_there : (kept : List KeptJob) (count : ℕ) (is_empty : Bool) → not is_empty ≡ true → is_empty ≡ (count == 0)
    → count ≡ length kept → 0 < length kept
some_there [] count is_empty some is same =
    absurd (true≢false (sym (is ∙ ap (λ n. n == 0) same) ∙ not-true is_empty some))
some_there (job ∷ kept) count is_empty some is same = omega arith

-- the same of one that is like the last, where there is one
pub put_next : (old new : List ℕ) (turn : ℕ) (kept reserved more : List KeptJob) (origin : Origin)
    (queues : List (List ℕ)) (goes_on : Bool) (message : KeptMessage) (block : Block) (content : Content)
    → IsSeen old turn kept block
    → reserved ≡ kept
    → more ≡ reserved ++ kept_of origin queues goes_on message ∷ []
    → Extends old new
    → IsKeptAs new message content
    → (goes_on ≡ true → 0 < length reserved)
    → (0 < length block.jobs → IsLast origin.publisher content.subject origin.echo queues block.jobs)
    → IsShort content
    → IsMore old new kept more (kept_of origin queues goes_on message) block content
put_next old new turn kept reserved more origin queues goes_on message block content seen same put grows is some last
    short =
    let count : length block.jobs ≡ length reserved = sym (ap (λ (l : List Job). length l) seen.jobs)
    ∙ jobs_length old turn kept ∙ sym (ap (λ (l : List KeptJob). length l) same) in
    let in_order : AreNumberedFrom block.first_turn block.jobs = subst (λ (n : ℕ). AreNumberedFrom n block.jobs)
    seen.first (subst (AreNumberedFrom turn) seen.jobs (numbered old turn kept)) in
    record {
      grows = grows;
      put = put ∙ ap (λ (l : List KeptJob). l ++ kept_of origin queues goes_on message ∷ []) same;
      message = is;
      goes = λ g.
          let low = some g in
          goes_on_last block.first_turn block.jobs origin content queues in_order (last (omega (arith, count, low)))
          short;
    }

pub pushed_jobs : (old new : List ℕ) (turn : ℕ) (kept more : List KeptJob) (last : KeptJob) (block : Block)
    (content : Content)
    → IsSeen old turn kept block
    → IsMore old new kept more last block content
    → jobs_in new turn more ≡ block.jobs ++ job_with (turn_behind block) last content ∷ []
pushed_jobs old new turn kept more last block content seen put =
    let first = seen.first in
    let count : length kept ≡ length block.jobs =
    sym (jobs_length old turn kept) ∙ ap (λ (l : List Job). length l) seen.jobs in
    let behind : turn + length kept ≡ block.first_turn + length block.jobs = omega (arith, count, first) in
    ap (jobs_in new turn) put.put
    ∙ jobs_more new turn kept last
    ∙ ap (λ (l : List Job). l ++ job_in new (turn + length kept) last ∷ [])
    (jobs_later old new turn kept put.grows seen.is.each ∙ seen.jobs)
    ∙ ap (λ (n : ℕ). block.jobs ++ job_with n last (message_in new last.message) ∷ []) behind
    ∙ ap (λ (m : Content). block.jobs ++ job_with (turn_behind block) last m ∷ []) put.message.same

pub pushed_block : (old new : List ℕ) (turn : ℕ) (kept more : List KeptJob) (last : KeptJob) (block : Block)
    (content : Content)
    → IsSeen old turn kept block
    → IsMore old new kept more last block content
    → turn_behind block ≤ MAX_COUNTER
    → IsBlock new turn more
pushed_block old new turn kept more last block content seen put below =
    let first = seen.first in
    let len : length more ≡ length kept + 1 =
    ap (λ (l : List KeptJob). length l) put.put ∙ length-append kept (last ∷ []) in
    let count : length block.jobs ≡ length kept =
    sym (ap (λ (l : List Job). length l) seen.jobs) ∙ jobs_length old turn kept in
    let most : block.first_turn + length block.jobs ≤ MAX_COUNTER = below in
    let job = job_with (turn_behind block) last content in
    let then_seen = sym (pushed_jobs old new turn kept more last block content seen put) in
    record {
      each =
          subst (AreKept new) (sym put.put)
          (all_more new kept last (all_later old new kept put.grows seen.is.each) put.message.kept);
      runs = λ k j at.
          at_end kept last (λ n other. other.goes_on ≡ true → GoesOnAt (jobs_in new turn more) n)
          (λ n other there goes.
          subst (λ (l : List Job). GoesOnAt l n) then_seen
          (goes_on_later block.jobs (job ∷ []) n
          (subst (λ (l : List Job). GoesOnAt l n) seen.jobs (seen.is.runs n other there goes))))
          (λ goes.
          subst (λ (l : List Job). GoesOnAt l (length kept)) then_seen
          (subst (GoesOnAt (block.jobs ++ job ∷ [])) count (put.goes goes)))
          k j (subst (λ (l : List KeptJob). slice_get l k ≡ Some j) put.put at);
      turns = omega (arith, len, count, first, most);
    }

pub pushed : (old new : List ℕ) (turn : ℕ) (kept more : List KeptJob) (last : KeptJob) (block : Block)
    (content : Content) (memory : ℕ)
    → IsSeen old turn kept block
    → IsMore old new kept more last block content
    → IsPushed (job_with (turn_behind block) last content) block
    (record { first_turn = turn; jobs = jobs_in new turn more; memory = memory })
pushed old new turn kept more last block content memory seen put = record {
  first_turn = seen.first;
  jobs = pushed_jobs old new turn kept more last block content seen put;
}

-- where a run goes on with the job that is kept there, it does with the one that is seen
pub goes_on_there : (text : List ℕ) (turn : ℕ) (kept : List KeptJob) (k : ℕ) (d : KeptJob) (jobs : List Job)
    → jobs_in text turn kept ≡ jobs → IsBlock text turn kept → k < length jobs → d ≡ get_or kept k d
    → d.goes_on ≡ true → GoesOnAt jobs k
goes_on_there text turn kept k d jobs seen is lt there goes =
    let count : length jobs ≡ length kept = sym (ap (λ (l : List Job). length l) seen) ∙ jobs_length text turn kept in
    subst (λ (l : List Job). GoesOnAt l k) seen
    (is.runs k d (slice_get_read kept (length kept) k d refl (omega (arith, count, lt)) there) goes)

-- ---- what is told of a job

-- a message that stands apart is the one that is kept
pub shared_same : (text : List ℕ) (message : KeptMessage)
    → IfSome (shared_in message) (λ m. m ≡ message_in text message)
shared_same text (InText spans) = tt
shared_same text (Shared content) = refl

-- memory of places and of a text, each within its bound
pub memory_within : (text places most count size : ℕ) → text ≤ most → places ≤ count
    → text + places * size ≤ most + count * size
memory_within text places most count size small few =
    let e = mul-le-mul_right {m = places} {n = count} size few in omega (arith, small, e)
