-- A shard at work: what it keeps of its lane and of the race.
use Rattle.std.specs.Prelude.{◌≡◌, ℕ, ◌+◌, ◌≤◌, Bool, true, false, List, [], ◌++◌, length, Option, Some, None, cond, option_to_list}
use Rattle.subj.specs.declared.jobs.Job.{Job}
use Rattle.claim_cells.specs.declared.parts.ShardPart.{ShardPart}
use Rattle.claim_cells.specs.Rule.{newcomer}
use Rattle.claim_cells.specs.Seats.{HasTurn}
use Rattle.outbox.specs.Views.{Written, bytes_of_all}
use Rattle.shard_core.specs.ShardEvents.{Event, Answer, Take, Taken}
use Rattle.shard_core.specs.ShardSteps.{shard_answer, shard_after}
use Rattle.shard_core.specs.Shards.{State, new_shard}
use Rattle.node_threads.specs.Steps.{Done, Leads, jobs_of, claims_of}
use Rattle.node_law.specs.Sound.{tried_of}

-- the shard; what its seat at the race knows; the jobs that it popped from its lane, in order; and
-- the last one of these, where it is not begun yet
pub record AtWork : Type 0 where
  pub state : State
  pub part : ShardPart
  pub popped : List Job
  pub waiting : Option Job

-- the same of its fields; the job in hand of the lane waits, or does not
abbrev pub seen_as : State → ShardPart → List Job → Option Job → Bool → AtWork
seen_as state part popped hand waits = record {
  state = state;
  part = part;
  popped = popped;
  waiting = cond waits hand None;
}

-- a shard of this number, of so many, that has done nothing
abbrev pub at_start : ℕ → ℕ → AtWork
at_start shard shards = record {
  state = new_shard shard shards;
  part = newcomer shard;
  popped = [];
  waiting = None;
}

-- ---- what it does

-- By these steps. What it begins or drops is what it popped, in order; and its seat wins and loses
-- just what the steps say.
pub record Makes (old : AtWork) (steps : List Done) (new : AtWork) : Type 0 where
  pub got : List Job
  pub led : Leads old.state steps new.state
  pub popped : new.popped ≡ old.popped ++ got
  pub taken : option_to_list old.waiting ++ got ≡ jobs_of steps ++ option_to_list new.waiting
  pub shard : new.part.shard ≡ old.part.shard
  pub won : new.part.won ≡ old.part.won ++ claims_of true steps
  pub lost : new.part.lost ≡ old.part.lost ++ claims_of false steps

-- all that it did since its start
abbrev pub HasDone : ℕ → AtWork → Type 0
HasDone shards w = (steps : List Done) × Makes (at_start w.part.shard shards) steps w

-- an event that moves neither the lane nor the race: the shard's own step
pub record Does (old : AtWork) (event : Event) (answer : Answer) (new : AtWork) : Type 0 where
  pub answered : answer ≡ shard_answer old.state event
  pub after : new ≡ record old { state = shard_after old.state event }

-- the step of a take that gives these entries, whose bytes stand behind those that were there
pub record TakesBytes (old : AtWork) (conn count taken : ℕ) (before bytes : List ℕ) (new : AtWork) :
    Type 0 where
  pub entries : List Written
  pub does : Does old (Take conn count) (Taken entries) new
  pub told : taken ≡ length entries
  pub bytes_are : bytes ≡ before ++ bytes_of_all entries

-- ---- what its fields keep

abbrev pub one_if : Option Job → ℕ
one_if None = 0
one_if (Some job) = 1

-- its turn in the race is that of the job in hand, and is seen; and the indices tried are of its
-- queue names
pub record IsInTurn (finished next_index : ℕ) (part : ShardPart) (job : Job) : Type 0 where
  pub turn : job.turn ≡ finished + 1
  pub seen : HasTurn part
  pub tried : next_index ≤ length job.queues

-- the job that waits is that of the next turn, and none is in hand
pub record IsNext (finished : ℕ) (hand : Option Job) (job : Job) : Type 0 where
  pub turn : job.turn ≡ finished + 1
  pub alone : hand ≡ None

pub record IsAtWork (shards next_index : ℕ) (w : AtWork) : Type 0 where
  pub index : next_index ≡ w.state.next_index
  pub finished : w.part.finished ≡ w.state.finished
  pub next : w.part.next ≤ tried_of w.state.hand w.state.next_index
  pub hand : (job : Job)
      → w.state.hand ≡ Some job
      → IsInTurn w.state.finished w.state.next_index w.part job
  pub waits : (job : Job) → w.waiting ≡ Some job → IsNext w.state.finished w.state.hand job
  pub count : length w.popped ≡ w.state.finished + one_if w.state.hand + one_if w.waiting
  pub done : HasDone shards w
