-- A block of jobs as other crates see it.
use Rattle.std.specs.Prelude.{◌≡◌, ◌<◌, ◌≤◌, ℕ, ◌+◌, ◌-◌, Bool, nat_le, List, [], ◌∷◌, ◌++◌, length, slice_get, Option, Some, None, if◌then◌else◌}
use Rattle.subj.specs.Messages.{Content}
use Rattle.subj.specs.declared.jobs.Job.{Job}
use Rattle.job_block.specs.declared.kept.Origin.{Origin}
use Rattle.job_block.specs.declared.kept.TheConstants.{SHORT_BYTES}
use Rattle.job_block.specs.declared.blocks.TheConstants.{KEPT_BYTES}

-- the turn of its first job, which it has before there is one; the jobs, in order; and how many
-- bytes of memory it holds for them
pub record Block : Type 0 where
  pub first_turn : ℕ
  pub jobs : List Job
  pub memory : ℕ

-- profile: the turns go on from the first one's
abbrev pub AreNumberedFrom : ℕ → List Job → Type 0
AreNumberedFrom first jobs =
    (k : ℕ) (job : Job) → slice_get jobs k ≡ Some job → job.turn ≡ first + k

-- the turn behind the last job's
abbrev pub turn_behind : Block → ℕ
turn_behind block = block.first_turn + length block.jobs

abbrev pub job_of : Origin → ℕ → Content → List (List ℕ) → Job
job_of origin turn message queues = record {
  turn = turn;
  id = origin.id;
  message = message;
  publisher = origin.publisher;
  echo = origin.echo;
  queues = queues;
}

-- the job was put behind the others
pub record IsPushed (job : Job) (old new : Block) : Type 0 where
  pub first_turn : new.first_turn ≡ old.first_turn
  pub jobs : new.jobs ≡ old.jobs ++ job ∷ []

-- all is as it was, but that the block may hold more memory
pub record IsLeft (old new : Block) : Type 0 where
  pub first_turn : new.first_turn ≡ old.first_turn
  pub jobs : new.jobs ≡ old.jobs

-- A run goes on with the job: it has the next turn, no header block and a short payload, and the
-- subject, the publisher, the echo and the queue names of the one before it.
pub record FollowsAlike (before job : Job) : Type 0 where
  pub turn : job.turn ≡ before.turn + 1
  pub queues : job.queues ≡ before.queues
  pub plain : job.message.headers ≡ None
  pub short : length job.message.payload ≤ SHORT_BYTES
  pub subject : job.message.subject ≡ before.message.subject
  pub publisher : job.publisher ≡ before.publisher
  pub echo : job.echo ≡ before.echo

-- a run goes on with the job at the place, behind the one before it
pub record GoesOnAt (jobs : List Job) (place : ℕ) : Type 0 where
  pub before : Job
  pub job : Job
  pub behind : 0 < place
  pub stands_before : slice_get jobs (place - 1) ≡ Some before
  pub stands : slice_get jobs place ≡ Some job
  pub alike : FollowsAlike before job

-- a run goes on with each of them but the first
abbrev pub AreAlike : List Job → Type 0
AreAlike jobs =
    (k : ℕ) (before job : Job)
    → slice_get jobs k ≡ Some before
    → slice_get jobs (k + 1) ≡ Some job
    → FollowsAlike before job

-- the last job is there, and is of this publisher, subject and echo, with these queue names
pub record IsLast (publisher : Option ℕ) (subject : List ℕ) (echo : Bool)
    (queues : List (List ℕ)) (jobs : List Job) : Type 0 where
  pub last : Job
  pub stands : slice_get jobs (length jobs - 1) ≡ Some last
  pub subject_same : last.message.subject ≡ subject
  pub publisher_same : last.publisher ≡ publisher
  pub echo_same : last.echo ≡ echo
  pub queues_same : last.queues ≡ queues

-- so much is kept for other jobs, and nothing where it is more (profile)
abbrev pub kept_memory : ℕ → ℕ
kept_memory memory = if nat_le memory KEPT_BYTES then memory else 0
