-- What is kept in writing of what was done under a lock.
use Rattle.std.specs.Prelude.{◌≡◌, ℕ, Bool, List, [], ◌∷◌, ◌++◌, length, slice_get, Option, Some, None}
use Rattle.subj.specs.declared.keys.Delta.{Delta}
use Rattle.subj.specs.declared.jobs.Job.{Job}
use Rattle.shard_core.specs.ShardEvents as of_shard
use Rattle.shard_core.specs.declared.calls.Placed.{Placed}
use Rattle.shard_core.specs.declared.faults.ShardFault.{ShardFault}
use Rattle.node_threads.specs.AtWork.{AtWork, Makes, at_start}
use Rattle.node_threads.specs.Logs.{Made, Did, WasRefused, Logs, steps_in}
use Rattle.node_threads.specs.Steps.{placed_in}
use Rattle.node_threads.specs.declared.shard_entries.ShardEvent.{ShardEvent}
use Rattle.node_threads.specs.declared.shard_entries.ShardEvent.TheVariants as event
use Rattle.node_threads.specs.declared.shard_entries.ShardTold.{ShardTold}
use Rattle.node_threads.specs.declared.shard_entries.ShardTold.TheVariants as told
use Rattle.node_threads.specs.declared.shard_entries.ShardEntry.{ShardEntry}

-- these entries are added; or all are given up, or none were kept
abbrev pub Grows : {E : Type 0} → Option (List E) → List E → Option (List E) → Type 0
Grows old more None = Unit {0}
Grows None more (Some new) = ⊥
Grows (Some old) more (Some new) = new ≡ old ++ more

-- ---- what an entry says of a shard's step

abbrev pub turn_of : Option Job → Option ℕ
turn_of None = None
turn_of (Some job) = Some job.turn

-- of an answer: each value that takes no memory, and of a list how long it is
abbrev pub told_of : of_shard.Answer → ShardTold
told_of (of_shard.Attached conn) = told.Attached conn
told_of (of_shard.Opened sub) = told.Opened sub
told_of of_shard.AlreadyOpen = told.AlreadyOpen
told_of (of_shard.Unsubscribed ended) = told.Unsubscribed (slice_get ended 0)
told_of (of_shard.Replied shut ended) = told.Replied shut (length ended)
told_of of_shard.HeadersSet = told.HeadersSet
told_of (of_shard.WasShut ended) = told.WasShut (length ended)
told_of (of_shard.Detached ended) = told.Detached (length ended)
told_of (of_shard.Taken entries) = told.Taken (length entries)
told_of (of_shard.Began placed closed ended) = told.Work
told_of of_shard.Nobody = told.Work
told_of of_shard.Lost = told.Work
told_of (of_shard.Won sub placed ended) = told.Work
told_of of_shard.Finished = told.Work
told_of (of_shard.Dropped job) = told.Dropped (turn_of job)
told_of of_shard.Drains = told.Drained
told_of (of_shard.Collected deltas) = told.Work

-- the deltas that are handed to the hub
abbrev pub deltas_in : of_shard.Answer → List Delta
deltas_in (of_shard.Attached conn) = []
deltas_in (of_shard.Opened sub) = []
deltas_in of_shard.AlreadyOpen = []
deltas_in (of_shard.Unsubscribed ended) = []
deltas_in (of_shard.Replied shut ended) = []
deltas_in of_shard.HeadersSet = []
deltas_in (of_shard.WasShut ended) = []
deltas_in (of_shard.Detached ended) = []
deltas_in (of_shard.Taken entries) = []
deltas_in (of_shard.Began placed closed ended) = []
deltas_in of_shard.Nobody = []
deltas_in of_shard.Lost = []
deltas_in (of_shard.Won sub placed ended) = []
deltas_in of_shard.Finished = []
deltas_in (of_shard.Dropped job) = []
deltas_in of_shard.Drains = []
deltas_in (of_shard.Collected deltas) = deltas

abbrev pub entry : ShardEvent → ShardTold → ShardEntry
entry event told = record { event = event; told = told }

abbrev pub begin_entry : Job → List Placed → ShardEntry
begin_entry job placed = entry (event.Begin job placed) told.Work

abbrev pub claim_entry : ℕ → Bool → Option Placed → ShardEntry
claim_entry index won placed = entry (event.Claim index won placed) told.Work

abbrev pub end_entry : ShardEntry
end_entry = entry event.End told.Work

abbrev pub drop_entry : Option Job → Option Job → ShardEntry
drop_entry waiting job = entry (event.DropJob waiting) (told.Dropped (turn_of job))

-- the parts of a turn are written without an answer, but with the messages that they placed
abbrev pub entry_of : of_shard.Event → of_shard.Answer → ShardEntry
entry_of of_shard.Attach answer = entry event.Attach (told_of answer)
entry_of (of_shard.Subscribe conn key sid) answer =
    entry (event.Subscribe conn key sid) (told_of answer)
entry_of (of_shard.Unsubscribe conn sid max) answer =
    entry (event.Unsubscribe conn sid max) (told_of answer)
entry_of (of_shard.Reply conn frame) answer = entry (event.Reply conn frame) (told_of answer)
entry_of (of_shard.SetHeaders conn on) answer = entry (event.SetHeaders conn on) (told_of answer)
entry_of (of_shard.Shut conn text) answer = entry (event.Shut conn text) (told_of answer)
entry_of (of_shard.Detach conn) answer = entry (event.Detach conn) (told_of answer)
entry_of (of_shard.Take conn count) answer = entry (event.Take conn count) (told_of answer)
entry_of (of_shard.Begin job) answer = begin_entry job (placed_in answer)
entry_of (of_shard.Claim index won) answer = claim_entry index won (slice_get (placed_in answer) 0)
entry_of of_shard.End answer = end_entry
entry_of (of_shard.DropJob waiting) answer = entry (event.DropJob waiting) (told_of answer)
entry_of of_shard.Drain answer = entry event.Drain (told_of answer)
entry_of of_shard.Collect answer = entry (event.Collect (deltas_in answer)) told.Work

-- a refusal is written with its cause; a collect is never refused
abbrev pub refused_entry : of_shard.Event → ShardFault → ShardEntry
refused_entry event why = entry (entry_of event (of_shard.Collected [])).event (told.Refused why)

-- of all that was done and refused, the newest of which stands first in the list, and last on the
-- tape
abbrev pub entries_of : List Made → List ShardEntry
entries_of [] = []
entries_of (Did d ∷ earlier) = entries_of earlier ++ entry_of d.event d.answer ∷ []
entries_of (WasRefused before event why ∷ earlier) =
    entries_of earlier ++ refused_entry event why ∷ []

-- ---- a shard at work, and its tape

-- the shard makes some steps and refuses what it must between them, and just this is added to its
-- tape
pub record Tells (old : AtWork) (tape : Option (List ShardEntry)) (new : AtWork)
    (more : Option (List ShardEntry)) : Type 0 where
  pub log : List Made
  pub makes : Makes old (steps_in log) new
  pub logs : Logs old.state log new.state
  pub grows : Grows tape (entries_of log) more

-- all that it did and refused since its start is on its tape, where that is kept
abbrev pub IsTape : ℕ → AtWork → Option (List ShardEntry) → Type 0
IsTape shards w tape = Tells (at_start w.part.shard shards) (Some []) w tape
