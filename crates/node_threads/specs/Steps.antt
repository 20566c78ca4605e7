-- What a shard did, step by step, the newest step first.
use Rattle.std.specs.Prelude.{◌≡◌, ℕ, ◌+◌, Bool, not, List, [], ◌∷◌, ◌++◌, Option, Some, None, option_to_list, if◌then◌else◌}
use Rattle.sub_table.specs.declared.Subscription.{Subscription}
use Rattle.subj.specs.declared.jobs.Job.{Job}
use Rattle.shard_core.specs.Owed.{candidate_of}
use Rattle.shard_core.specs.ShardEvents.{Event, Attach, Subscribe, Unsubscribe, Reply, SetHeaders, Shut, Detach, Take, Begin, Claim, End, DropJob, Drain, Collect, Answer, Attached, Opened, AlreadyOpen, Unsubscribed, Replied, HeadersSet, WasShut, Detached, Taken, Began, Nobody, Lost, Won, Finished, Dropped, Drains, Collected}
use Rattle.shard_core.specs.ShardSteps.{IsDone}
use Rattle.shard_core.specs.Shards.{State}
use Rattle.shard_core.specs.declared.calls.Placed.{Placed}

-- an event that was done: the shard before it, and the answer
pub record Done : Type 0 where
  pub before : State
  pub event : Event
  pub answer : Answer

-- each of these is the shard's step, the first of them from this state, and they lead to that one
abbrev pub Leads : State → List Done → State → Type 0
Leads from [] to = to ≡ from
Leads from (d ∷ earlier) to = IsDone d.before d.event d.answer to × Leads from earlier d.before

-- ---- the jobs begun, or dropped unbegun, in order

abbrev pub job_in : Event → List Job
job_in Attach = []
job_in (Subscribe conn key sid) = []
job_in (Unsubscribe conn sid max) = []
job_in (Reply conn frame) = []
job_in (SetHeaders conn on) = []
job_in (Shut conn text) = []
job_in (Detach conn) = []
job_in (Take conn count) = []
job_in (Begin job) = job ∷ []
job_in (Claim index won) = []
job_in End = []
job_in (DropJob waiting) = option_to_list waiting
job_in Drain = []
job_in Collect = []

abbrev pub jobs_of : List Done → List Job
jobs_of [] = []
jobs_of (d ∷ earlier) = jobs_of earlier ++ job_in d.event

-- ---- the pairs of a turn and an index that were claimed with a candidate, in order: those won,
-- and those lost

abbrev pub pair_of : ℕ → ℕ → Option Subscription → List (ℕ × ℕ)
pair_of turn index None = []
pair_of turn index (Some sub) = (turn, index) ∷ []

abbrev pub claimed_in : State → Event → Bool → List (ℕ × ℕ)
claimed_in s Attach as_won = []
claimed_in s (Subscribe conn key sid) as_won = []
claimed_in s (Unsubscribe conn sid max) as_won = []
claimed_in s (Reply conn frame) as_won = []
claimed_in s (SetHeaders conn on) as_won = []
claimed_in s (Shut conn text) as_won = []
claimed_in s (Detach conn) as_won = []
claimed_in s (Take conn count) as_won = []
claimed_in s (Begin job) as_won = []
claimed_in s (Claim index won) as_won =
    if (if as_won then won else not won)
    then pair_of (s.finished + 1) index (candidate_of s s.hand index)
    else []
claimed_in s End as_won = []
claimed_in s (DropJob waiting) as_won = []
claimed_in s Drain as_won = []
claimed_in s Collect as_won = []

abbrev pub claims_of : Bool → List Done → List (ℕ × ℕ)
claims_of as_won [] = []
claims_of as_won (d ∷ earlier) = claims_of as_won earlier ++ claimed_in d.before d.event as_won

-- ---- the messages that were put, in order

abbrev pub placed_in : Answer → List Placed
placed_in (Attached conn) = []
placed_in (Opened sub) = []
placed_in AlreadyOpen = []
placed_in (Unsubscribed ended) = []
placed_in (Replied shut ended) = []
placed_in HeadersSet = []
placed_in (WasShut ended) = []
placed_in (Detached ended) = []
placed_in (Taken entries) = []
placed_in (Began placed closed ended) = placed
placed_in Nobody = []
placed_in Lost = []
placed_in (Won sub placed ended) = placed ∷ []
placed_in Finished = []
placed_in (Dropped job) = []
placed_in Drains = []
placed_in (Collected deltas) = []

-- by all steps
abbrev pub placed_by : List Done → List Placed
placed_by [] = []
placed_by (d ∷ earlier) = placed_by earlier ++ placed_in d.answer
