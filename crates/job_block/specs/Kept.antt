-- How the jobs of a block are kept: the parts of their messages in one text, or a message apart.
use Rattle.std.specs.Prelude.{◌≡◌, ◌≤◌, ℕ, ◌+◌, ◌-◌, true, List, [], ◌∷◌, length, slice_get, All, Option, Some, None}
use Rattle.subj.specs.Messages.{Content}
use Rattle.subj.specs.declared.jobs.Job.{Job}
use Rattle.subj.specs.declared.limits.TheConstants.{MAX_COUNTER}
use Rattle.job_block.specs.declared.kept.KeptJob.{KeptJob}
use Rattle.job_block.specs.declared.kept.KeptMessage.{KeptMessage}
use Rattle.job_block.specs.declared.kept.KeptMessage.TheVariants.{InText, Shared}
use Rattle.job_block.specs.Blocks.{GoesOnAt}
use Rattle.job_block.specs.Publications.{IsPublishable}
use Rattle.job_block.specs.declared.spans.Span.{Span}
use Rattle.job_block.specs.Spans.{AreSpans, IsPart, content_in}

abbrev pub message_in : List ℕ → KeptMessage → Content
message_in text (InText spans) = content_in text spans
message_in text (Shared content) = content

abbrev pub IsKeptMessage : List ℕ → KeptMessage → Type 0
IsKeptMessage text (InText spans) = AreSpans text spans × IsPublishable (content_in text spans)
IsKeptMessage text (Shared content) = Unit {0}

-- the message is kept so
pub record IsKeptAs (text : List ℕ) (message : KeptMessage) (content : Content) : Type 0 where
  pub kept : IsKeptMessage text message
  pub same : message_in text message ≡ content

-- the message, where it stands apart
abbrev pub shared_in : KeptMessage → Option Content
shared_in (InText spans) = None
shared_in (Shared content) = Some content

abbrev pub job_in : List ℕ → ℕ → KeptJob → Job
job_in text turn kept = record {
  turn = turn;
  id = kept.id;
  message = message_in text kept.message;
  publisher = kept.publisher;
  echo = kept.echo;
  queues = kept.queues;
}

-- their turns go on from the first one's
abbrev pub jobs_in : List ℕ → ℕ → List KeptJob → List Job
jobs_in text turn [] = []
jobs_in text turn (kept ∷ others) = job_in text turn kept ∷ jobs_in text (turn + 1) others

abbrev pub AreKept : List ℕ → List KeptJob → Type 0
AreKept text kept = All (λ job. IsKeptMessage text job.message) kept

-- there is a last one, and its subject stands there
pub record IsOfLast (text : List ℕ) (kept : List KeptJob) (span : Span) : Type 0 where
  pub last : KeptJob
  pub stands : slice_get kept (length kept - 1) ≡ Some last
  pub subject : IsPart text span (message_in text last.message).subject

-- what the fields of a block keep
pub record IsBlock (text : List ℕ) (first_turn : ℕ) (kept : List KeptJob) : Type 0 where
  pub each : AreKept text kept
  -- of each that is marked so a run goes on with it
  pub runs : (place : ℕ) (job : KeptJob)
      → slice_get kept place ≡ Some job
      → job.goes_on ≡ true
      → GoesOnAt (jobs_in text first_turn kept) place
  pub turns : first_turn + length kept ≤ MAX_COUNTER + 1
