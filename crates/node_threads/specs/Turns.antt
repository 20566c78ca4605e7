-- What a turn of a shard does.
use Rattle.std.specs.Prelude.{◌≡◌, ℕ, ◌+◌, ◌<◌, ◌≤◌, Bool, true, false, List, [], ◌∷◌, ◌++◌, length, map, take, Option, None, Some, is_some, Result, Ok, Err}
use Rattle.list_laws.specs.Lists.{Each}
use Rattle.subj.specs.declared.jobs.Job.{Job}
use Rattle.subj.specs.declared.failures.Failure.{Failure}
use Rattle.subj.specs.declared.failures.Failure.TheVariants.{Refused, OutOfMemory}
use Rattle.claim_cells.specs.declared.parts.ShardPart.{ShardPart}
use Rattle.claim_cells.specs.Seats.{HasTurn, RaceId, ShardShown, last_load}
use Rattle.shard_core.specs.ClaimRuns.{ClaimPart}
use Rattle.shard_core.specs.ShardEvents.{Event, Attach, Subscribe, Unsubscribe, Reply, SetHeaders, Shut, Detach, Take, Begin, Claim, End, DropJob, Drain, Collect}
use Rattle.shard_core.specs.declared.faults.ShardFault.{ShardFault}
use Rattle.shard_core.specs.declared.faults.ShardFault.TheVariants.{NoJob}
use Rattle.shard_core.specs.Runs.{CanRun, delivered_run}
use Rattle.shard_core.specs.Shards.{State}
use Rattle.node_threads.specs.AtWork.{AtWork, Makes}
use Rattle.node_threads.specs.Steps.{Done, Leads, claims_of, jobs_of}
use Rattle.node_threads.specs.declared.turned.Turned.{Turned}
use Rattle.node_threads.specs.declared.turned.Turned.TheVariants.{Idle, Worked, WorkedRun, Short}

-- an event of a turn that is not its end
abbrev pub is_work : Event → Bool
is_work Attach = false
is_work (Subscribe conn key sid) = false
is_work (Unsubscribe conn sid max) = false
is_work (Reply conn frame) = false
is_work (SetHeaders conn on) = false
is_work (Shut conn text) = false
is_work (Detach conn) = false
is_work (Take conn count) = false
is_work (Begin job) = true
is_work (Claim index won) = true
is_work End = false
is_work (DropJob waiting) = false
is_work Drain = false
is_work Collect = false

-- steps that a turn makes before its end: each is the shard's step
pub record Works (old : AtWork) (steps : List Done) (new : AtWork) : Type 0 where
  pub makes : Makes old steps new
  pub work : Each (λ d. is_work d.event ≡ true) steps

abbrev pub HasWorked : AtWork → AtWork → Type 0
HasWorked old new = (steps : List Done) × Works old steps new

-- no job is in hand, and none that was popped has a turn that the shard has seen issued
pub record HasNone (w : AtWork) : Type 0 where
  pub hand : w.state.hand ≡ None
  pub turn : is_some w.waiting ≡ true → ¬ HasTurn w.part

-- the events of these steps, the oldest first
abbrev pub events_of : List Done → List Event
events_of [] = []
events_of (d ∷ earlier) = events_of earlier ++ d.event ∷ []

-- the queue names from this index on are claimed in order, each won or not
abbrev pub claims_from : ℕ → List Bool → List Event
claims_from index [] = []
claims_from index (won ∷ wins) = Claim index won ∷ claims_from (index + 1) wins

-- each of these jobs is begun, its queue names are claimed, each won or not, and it ends
abbrev pub worked_through : List Job → List (List Bool) → List Event
worked_through [] wins = []
worked_through (job ∷ jobs) [] = []
worked_through (job ∷ jobs) (won ∷ wins) =
    Begin job ∷ (claims_from 0 won ++ End ∷ worked_through jobs wins)

-- so many jobs, at least one, are each worked from Begin to End in turn, with a claim of each queue
-- name; and that is all that is done
pub record HasWorkedRun (old : AtWork) (count last : ℕ) (new : AtWork) : Type 0 where
  pub jobs : List Job
  pub wins : List (List Bool)
  pub steps : List Done
  pub makes : Makes old steps new
  pub events : events_of steps ≡ worked_through jobs wins
  pub names : map length wins ≡ map (λ job. length job.queues) jobs
  pub count_is : count ≡ length jobs
  pub some : 0 < count
  pub last_is : last ≡ old.state.finished + count

-- after some such steps the job in hand is ended
pub record HasEnded (old : AtWork) (turn : ℕ) (new : AtWork) : Type 0 where
  pub last : Done
  pub earlier : List Done
  pub makes : Makes old (last ∷ earlier) new
  pub work : Each (λ d. is_work d.event ≡ true) earlier
  pub ends : last.event ≡ End
  pub turn_is : turn ≡ last.before.finished + 1

abbrev pub Turns : AtWork → Turned → AtWork → Type 0
Turns old Idle new = Makes old [] new × HasNone new
Turns old (Worked turn) new = HasEnded old turn new
Turns old (WorkedRun jobs last) new = HasWorkedRun old jobs last new
Turns old Short new = HasWorked old new

-- ---- a job is dropped

-- the job in hand, or else the one that waits, is done without the rest of it
pub record HasDropped (old : AtWork) (turn : ℕ) (new : AtWork) : Type 0 where
  pub last : Done
  pub job : Option Job
  pub makes : Makes old (last ∷ []) new
  pub drops : last.event ≡ DropJob job
  pub turn_is : turn ≡ last.before.finished + 1

abbrev pub Drops : AtWork → Result ℕ (Failure ShardFault) → AtWork → Type 0
Drops old (Ok turn) new = HasDropped old turn new
Drops old (Err (Refused why)) new = (why ≡ NoJob) × Makes old [] new × HasNone new
Drops old (Err OutOfMemory) new = Makes old [] new

-- ---- its parts

-- what the seat of a shard knows, as a run of claims sees it
abbrev pub claim_part : ShardPart → ClaimPart
claim_part p = record {
  finished = p.finished;
  seen = last_load p.loads;
  next = p.next;
  won = p.won;
  lost = p.lost;
}

-- what it leaves of a seat: of which race and shard it is, and what it has seen
pub record SeatKept : Type 0 where
  pub race : RaceId
  pub shard : ℕ
  pub loads : List ℕ

abbrev pub seat_kept : ShardShown → SeatKept
seat_kept seat = record { race = seat.race; shard = seat.part.shard; loads = seat.part.loads }

-- a job is in hand, or one that was popped has a turn that the shard has seen issued
abbrev pub MayBegin : AtWork → Type 0
MayBegin w = w.state.hand ≡ None → (is_some w.waiting ≡ true) × HasTurn w.part

-- so many of these jobs, from the first on, were delivered at once; where none was, the shard is as
-- it was
pub record DeliversFirst (jobs : List Job) (count : ℕ) (old new : State) : Type 0 where
  pub few : count ≤ length jobs
  pub none : count ≡ 0 → new ≡ old
  pub can : 0 < count → CanRun old (take count jobs)
  pub after : 0 < count → new ≡ delivered_run old (take count jobs)

-- These jobs were each worked from Begin to End in turn, and that is all that was done. The shard
-- is at rest behind them. Its seat has finished their turns, and has won and lost just what was
-- claimed.
pub record WorksThrough
    (jobs : List Job) (old : State) (before : ShardPart) (new : State) (after : ShardPart) :
    Type 0 where
  pub wins : List (List Bool)
  pub steps : List Done
  pub led : Leads old steps new
  pub events : events_of steps ≡ worked_through jobs wins
  pub names : map length wins ≡ map (λ job. length job.queues) jobs
  pub begun : jobs_of steps ≡ jobs
  pub hand : new.hand ≡ None
  pub next_index : new.next_index ≡ 0
  pub finished : new.finished ≡ old.finished + length jobs
  pub shard : after.shard ≡ before.shard
  pub turns : after.finished ≡ before.finished + length jobs
  pub next : after.next ≡ 0
  pub won : after.won ≡ before.won ++ claims_of true steps
  pub lost : after.lost ≡ before.lost ++ claims_of false steps

-- so many of these jobs, from the first on, were so worked; where none was, all is as it was
pub record WorksFirst
    (jobs : List Job) (count : ℕ) (old : State) (before : ShardPart) (new : State)
    (after : ShardPart) : Type 0 where
  pub few : count ≤ length jobs
  pub none : count ≡ 0 → new ≡ old
  pub left : count ≡ 0 → after ≡ before
  pub through : 0 < count → WorksThrough (take count jobs) old before new after

-- the index is the next one of the job in hand
pub record MayClaim (index : ℕ) (s : State) : Type 0 where
  pub job : Job
  pub hand : s.hand ≡ Some job
  pub next : index ≡ s.next_index
  pub within : index < length job.queues

-- the index was tried
pub record ClaimsOne (index : ℕ) (old new : AtWork) : Type 0 where
  pub works : HasWorked old new
  pub next : new.state.next_index ≡ index + 1
  pub hand : new.state.hand ≡ old.state.hand

-- all queue names of the job in hand were tried
pub record HasTried (s : State) : Type 0 where
  pub job : Job
  pub hand : s.hand ≡ Some job
  pub tried : s.next_index ≡ length job.queues

-- the indices of the job in hand, so many, were tried up to this one
pub record IsTrying (index count : ℕ) (s : State) : Type 0 where
  pub job : Job
  pub hand : s.hand ≡ Some job
  pub next : s.next_index ≡ index
  pub names : length job.queues ≡ count
  pub within : index ≤ count
