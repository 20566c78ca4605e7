-- What a shard answered at each entry of its tape, with the lists that the tape has in numbers:
-- what its definition answers in the state to which the entries before lead.
use Rattle.std.specs.Prelude.{◌≡◌, Bool, true, false, cond, List, [], ◌∷◌}
use Rattle.outbox.specs.Views.{Written}
use Rattle.subj.specs.declared.identities.SubId.{SubId}
use Rattle.shard_core.specs.ShardEvents as of_shard
use Rattle.shard_core.specs.ShardSteps.{IsDone, shard_after, shard_answer}
use Rattle.shard_core.specs.Shards.{State}
use Rattle.node_threads.specs.Logs.{Made, Logs}
use Rattle.node_threads.specs.Steps.{Done}
use Rattle.node_threads.specs.Tapes.{entries_of, entry_of}
use Rattle.node_threads.specs.declared.shard_entries.ShardEntry.{ShardEntry}
use Rattle.node_threads.specs.declared.shard_entries.ShardEvent.{ShardEvent}
use Rattle.node_threads.specs.declared.shard_entries.ShardEvent.TheVariants as event
use Rattle.node_threads.specs.declared.shard_entries.ShardTold.{ShardTold}
use Rattle.node_threads.specs.declared.shard_entries.ShardTold.TheVariants as told

-- ---- the lists of an answer: the subscriptions that closed with their connection, and the entries
-- that were taken

pub record ShardLists : Type 0 where
  pub closed : List SubId
  pub taken : List Written

abbrev pub no_lists : ShardLists
no_lists = record { closed = []; taken = [] }

abbrev pub closed_lists : List SubId → ShardLists
closed_lists closed = record { closed = closed; taken = [] }

abbrev pub taken_lists : List Written → ShardLists
taken_lists taken = record { closed = []; taken = taken }

abbrev pub lists_of : of_shard.Answer → ShardLists
lists_of (of_shard.Attached conn) = no_lists
lists_of (of_shard.Opened sub) = no_lists
lists_of of_shard.AlreadyOpen = no_lists
lists_of (of_shard.Unsubscribed ended) = no_lists
lists_of (of_shard.Replied shut ended) = closed_lists ended
lists_of of_shard.HeadersSet = no_lists
lists_of (of_shard.WasShut ended) = closed_lists ended
lists_of (of_shard.Detached ended) = closed_lists ended
lists_of (of_shard.Taken entries) = taken_lists entries
lists_of (of_shard.Began placed closed ended) = no_lists
lists_of of_shard.Nobody = no_lists
lists_of of_shard.Lost = no_lists
lists_of (of_shard.Won sub placed ended) = no_lists
lists_of of_shard.Finished = no_lists
lists_of (of_shard.Dropped job) = no_lists
lists_of of_shard.Drains = no_lists
lists_of (of_shard.Collected deltas) = no_lists

-- ---- what an entry says of a shard's step

abbrev pub asked : ShardEvent → of_shard.Event
asked event.Attach = of_shard.Attach
asked (event.Subscribe conn key sid) = of_shard.Subscribe conn key sid
asked (event.Unsubscribe conn sid max) = of_shard.Unsubscribe conn sid max
asked (event.Reply conn frame) = of_shard.Reply conn frame
asked (event.SetHeaders conn on) = of_shard.SetHeaders conn on
asked (event.Shut conn text) = of_shard.Shut conn text
asked (event.Detach conn) = of_shard.Detach conn
asked (event.Take conn count) = of_shard.Take conn count
asked (event.Begin job placed) = of_shard.Begin job
asked (event.Claim index won placed) = of_shard.Claim index won
asked event.End = of_shard.End
asked (event.DropJob waiting) = of_shard.DropJob waiting
asked event.Drain = of_shard.Drain
asked (event.Collect deltas) = of_shard.Collect

-- a step was made, and not refused
abbrev pub is_made : ShardTold → Bool
is_made (told.Attached conn) = true
is_made (told.Opened sub) = true
is_made told.AlreadyOpen = true
is_made (told.Unsubscribed ended) = true
is_made (told.Replied shut ended) = true
is_made told.HeadersSet = true
is_made (told.WasShut ended) = true
is_made (told.Detached ended) = true
is_made (told.Taken entries) = true
is_made told.Work = true
is_made (told.Dropped turn) = true
is_made told.Drained = true
is_made (told.Refused why) = false

-- the lists that were answered in this state
abbrev pub lists_at : State → ShardEntry → ShardLists
lists_at s entry =
    cond (is_made entry.told) (lists_of (shard_answer s (asked entry.event))) no_lists

-- the state behind an entry
abbrev pub state_behind : State → ShardEntry → State
state_behind s entry = cond (is_made entry.told) (shard_after s (asked entry.event)) s

-- the state behind all of these
abbrev pub state_after : State → List ShardEntry → State
state_after s [] = s
state_after s (entry ∷ tape) = state_after (state_behind s entry) tape

-- a shard that is asked this again stands so behind it, and has answered with these lists
pub record DoesAgain (old : State) (event : of_shard.Event) (lists : ShardLists) (new : State) :
    Type 0 where
  pub lists_are : lists ≡ lists_of (shard_answer old event)
  pub after : new ≡ shard_after old event

-- ---- the same of a run: its tape leads to the run's own states, and the lists at each step are
-- those of the step's answer

pub record AreAnswered : Type 0 where
  pub states : (from to : State) (log : List Made)
      → Logs from log to
      → state_after from (entries_of log) ≡ to
  pub lists : (d : Done) (to : State)
      → IsDone d.before d.event d.answer to
      → lists_at d.before (entry_of d.event d.answer) ≡ lists_of d.answer
