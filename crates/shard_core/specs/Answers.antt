-- How the calls of a shard answer.
use Rattle.std.specs.Prelude.{◌≡◌, ℕ, ◌+◌, Bool, true, false, List, [], ◌++◌, length, take, Option, Some, None, is_some, Result, Ok, Err}
use Rattle.subj.specs.declared.failures.Failure.{Failure}
use Rattle.subj.specs.declared.failures.Failure.TheVariants.{Refused, OutOfMemory}
use Rattle.subj.specs.declared.jobs.Job.{Job}
use Rattle.shard_core.specs.declared.calls.BeginFault.{BeginFault}
use Rattle.shard_core.specs.declared.calls.Begun.{Begun}
use Rattle.shard_core.specs.declared.calls.Placed.{Placed}
use Rattle.shard_core.specs.declared.calls.Subscribed.{Subscribed}
use Rattle.shard_core.specs.declared.calls.Subscribed.TheVariants.{New, Same}
use Rattle.shard_core.specs.declared.faults.ShardFault.{ShardFault}
use Rattle.shard_core.specs.declared.shard.CalledSub.{CalledSub}
use Rattle.sub_table.specs.declared.Subscription.{Subscription}
use Rattle.shard_core.specs.Closings.{ended_ids}
use Rattle.shard_core.specs.Owed.{whole_walk}
use Rattle.shard_core.specs.Puts.{put_by}
use Rattle.shard_core.specs.ShardEvents.{Answer, Opened, AlreadyOpen, Take, Begin}
use Rattle.shard_core.specs.ShardSteps.{shard_after, ended_now}
use Rattle.shard_core.specs.Held.{Held, held_at_rest}
use Rattle.shard_core.specs.Shards.{State, waits_for}
use Rattle.outbox.specs.Views.{bytes_of_all}

-- what `subscribe` answers
abbrev pub answer_of : Subscribed → Answer
answer_of (New sub) = Opened sub
answer_of Same = AlreadyOpen

-- the serial of the subscription that `subscribe` opens; none where its id calls one
abbrev pub Opens : State → Option Subscription → Option ℕ → Type 0
Opens s called None = is_some called ≡ true
Opens s called (Some serial) = (is_some called ≡ false) × (serial ≡ s.opened + 1)

-- a subscription that an id calls, and whether a maximum closes it at once
abbrev pub call_of : Option ℕ → Subscription → CalledSub
call_of max sub = record { serial = sub.serial; ends = ended_now max sub }

-- copies of the entries, where they are asked for
abbrev pub copies_of : Bool → List Placed → List Placed
copies_of true placed = placed
copies_of false placed = []

-- the bytes of the first entries that wait stand behind those that were there: a take without
-- entries
pub record TakesBytes (old : Held) (conn count taken : ℕ) (before bytes : List ℕ) (new : Held) :
    Type 0 where
  pub told : taken ≡ length (take count (waits_for conn old.state.clients))
  pub bytes_are : bytes ≡ before ++ bytes_of_all (take count (waits_for conn old.state.clients))
  pub after : new ≡ held_at_rest (shard_after old.state (Take conn count))

-- what `begin` answers of its walk; the entries that it put, only where copies are asked for
pub record IsTold (copies : Bool) (s : State) (job : Job) (begun : Begun) : Type 0 where
  pub given : begun.given ≡ length (whole_walk s job).given
  pub put : begun.put.items ≡ copies_of copies (put_by s (Begin job))
  pub closed : begun.closed.items ≡ (whole_walk s job).shut
  pub ended : begun.ended.items ≡ ended_ids s.shard (whole_walk s job).ended

-- the step of a begin
pub record HasBegun (copies : Bool) (old : Held) (job : Job) (begun : Begun) (new : Held) :
    Type 0 where
  pub answered : IsTold copies old.state job begun
  pub after : new ≡ held_at_rest (shard_after old.state (Begin job))

-- refused, or without memory, with the job handed back as it was
abbrev pub IsHandedBack : Option ShardFault → Job → Type 0 → Job → Failure ShardFault → Type 0
IsHandedBack cause job same back (Refused why) = (cause ≡ Some why) × (back ≡ job) × same
IsHandedBack cause job same back OutOfMemory = (cause ≡ None) × (back ≡ job) × same

abbrev pub IsAnsweredOrBack : {T : Type 0} → Option ShardFault → Job → (T → Type 0) → Type 0
    → Result T BeginFault → Type 0
IsAnsweredOrBack cause job done same (Ok x) = (cause ≡ None) × done x
IsAnsweredOrBack cause job done same (Err fault) = IsHandedBack cause job same fault.job fault.cause
