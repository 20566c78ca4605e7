-- A shard, and the jobs that wait for it: how its calls go.
use Rattle.std.specs.Prelude.{◌≡◌, ℕ, ◌≤◌, ◌+◌, Bool, true, false, List, ◌++◌, length, take, Option, Some, None, Result, Ok, Err, option_to_list}
use Rattle.std.specs.Option.{option_map, option_or}
use Rattle.outbox.specs.Views.{Written, bytes_of_all}
use Rattle.subj.specs.declared.failures.Failure.{Failure}
use Rattle.subj.specs.declared.failures.Failure.TheVariants.{Refused, OutOfMemory}
use Rattle.subj.specs.declared.jobs.Job.{Job}
use Rattle.claim_race.specs.Race.{RaceState, IsInTurn, next_of}
use Rattle.shard_core.specs.Answers.{IsTold}
use Rattle.shard_core.specs.Lines.{first_of}
use Rattle.shard_core.specs.Held.{copy_of}
use Rattle.shard_core.specs.Owed.{candidate_of}
use Rattle.shard_core.specs.declared.calls.Begun.{Begun}
use Rattle.shard_core.specs.declared.calls.Placed.{Placed}
use Rattle.shard_core.specs.ShardEvents as of_shard
use Rattle.shard_core.specs.ShardSteps.{shard_answer}
use Rattle.shard_core.specs.Shards.{waits_for}
use Rattle.shard_core.specs.declared.faults.ShardFault.{ShardFault}
use Rattle.node_law.specs.declared.faults.NodeFault.{NodeFault}
use Rattle.node_law.specs.declared.faults.NodeFault.TheVariants.{Shard}
use Rattle.node_law.specs.declared.events.ShardWork.TheVariants.{DropJob}
use Rattle.node_law.specs.Sound.{tried_of}
use Rattle.node_law.specs.State.{ShardWithJobs}
use Rattle.node_law.specs.Steps.{work_event, line_after, line_after_if, ClaimRace}
use Rattle.node_parts.specs.declared.lines.Claimed.{Claimed}
use Rattle.node_parts.specs.declared.lines.Claimed.TheVariants.{Nobody, Lost, Won}

-- ---- a call

-- it is the step of this event, with the shard's answer
pub record LineStep (old : ShardWithJobs) (event : of_shard.Event) (answer : of_shard.Answer)
    (new : ShardWithJobs) : Type 0 where
  pub answered : answer ≡ shard_answer old.shard event
  pub after : new ≡ line_after event old

-- the first job that waits has begun, with this answer
pub record LineBegins (copies : Bool) (old : ShardWithJobs) (begun : Begun) (new : ShardWithJobs) :
    Type 0 where
  pub job : Job
  pub first : first_of old.waiting ≡ Some job
  pub told : IsTold copies old.shard job begun
  pub after : new ≡ line_after (of_shard.Begin job) old

-- the job in hand has ended, with its turn
pub record LineEnds (old : ShardWithJobs) (turn : ℕ) (new : ShardWithJobs) : Type 0 where
  pub held : option_map (λ (job : Job). job.turn) old.shard.hand ≡ Some turn
  pub after : new ≡ line_after of_shard.End old

-- the job that a drop takes: the one in hand, or else the first that waits
abbrev pub dropped_job : ShardWithJobs → Option Job
dropped_job line = option_or line.shard.hand (first_of line.waiting)

-- a job is dropped, and its turn is finished
pub record LineDrops (old : ShardWithJobs) (turn : ℕ) (new : ShardWithJobs) : Type 0 where
  pub held : option_map (λ (job : Job). job.turn) (dropped_job old) ≡ Some turn
  pub after : new ≡ line_after_if (work_event DropJob false old) old

-- ---- a claim

-- it is won
abbrev pub is_won : Claimed → Bool
is_won Nobody = false
is_won Lost = false
is_won (Won sub placed ended) = true

-- what the shard answers; the entry that is placed, only where a copy of it is asked for
abbrev pub IsClaimTold : Bool → Claimed → of_shard.Answer → Type 0
IsClaimTold copies Nobody answer = answer ≡ of_shard.Nobody
IsClaimTold copies Lost answer = answer ≡ of_shard.Lost
IsClaimTold copies (Won sub placed ended) answer =
    (entry : Placed)
    × (placed ≡ copy_of copies entry)
    × (answer ≡ of_shard.Won sub entry (option_to_list ended))

-- an index of the job in hand is claimed: the shard's part, and the race's
pub record LineClaims (copies : Bool) (old : ShardWithJobs) (race : RaceState) (shard index : ℕ)
    (claimed : Claimed) (new : ShardWithJobs) (after_race : RaceState) : Type 0 where
  pub told :
      IsClaimTold copies claimed (shard_answer old.shard (of_shard.Claim index (is_won claimed)))
  pub after : new ≡ line_after (of_shard.Claim index (is_won claimed)) old
  pub moves : ClaimRace race shard index old.shard.hand
      (candidate_of old.shard old.shard.hand index) (is_won claimed) after_race

-- the turn in hand is the shard's in the race, and the index that comes next was not claimed in it
pub record MayClaim (line : ShardWithJobs) (race : RaceState) (shard : ℕ) : Type 0 where
  pub turn : (turn : ℕ)
      → option_map (λ (job : Job). job.turn) line.shard.hand ≡ Some turn
      → IsInTurn race shard turn
  pub next : next_of race shard ≤ tried_of line.shard.hand line.shard.next_index

-- where no job is in hand, the first that waits is that of the next turn
abbrev pub WaitsNext : ShardWithJobs → Type 0
WaitsNext line =
    (job : Job)
    → line.shard.hand ≡ None
    → first_of line.waiting ≡ Some job
    → job.turn ≡ line.shard.finished + 1

-- what a shard refuses, its server refuses
abbrev pub failure_of_shard : Failure ShardFault → Failure NodeFault
failure_of_shard (Refused why) = Refused (Shard why)
failure_of_shard OutOfMemory = OutOfMemory

abbrev pub of_answer : {X : Type 0} → Result X (Failure ShardFault) → Result X (Failure NodeFault)
of_answer (Ok x) = Ok x
of_answer (Err why) = Err (failure_of_shard why)

abbrev pub of_decision : {X : Type 0} → Result X ShardFault → Result X NodeFault
of_decision (Ok x) = Ok x
of_decision (Err why) = Err (Shard why)

-- ---- bytes are taken

-- the first entries that wait for a connection of the line
abbrev pub first_entries : ShardWithJobs → ℕ → ℕ → List Written
first_entries line conn count = take count (waits_for conn line.shard.clients)

-- the bytes of the first entries stand behind those that were there
pub record LineTakesBytes (old : ShardWithJobs) (conn count taken : ℕ) (before bytes : List ℕ)
    (new : ShardWithJobs) : Type 0 where
  pub told : taken ≡ length (first_entries old conn count)
  pub bytes_are : bytes ≡ before ++ bytes_of_all (first_entries old conn count)
  pub after : new ≡ line_after (of_shard.Take conn count) old
