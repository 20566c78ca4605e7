-- What a shard did and what it refused, the newest first.
use Rattle.std.specs.Prelude.{◌≡◌, ◌⊎◌, List, [], ◌∷◌, None, Some}
use Rattle.shard_core.specs.ShardEvents.{Event, DropJob}
use Rattle.shard_core.specs.ShardSteps.{IsDone, shard_refusal}
use Rattle.shard_core.specs.Shards.{State}
use Rattle.shard_core.specs.declared.faults.ShardFault.{ShardFault}
use Rattle.shard_core.specs.declared.faults.ShardFault.TheVariants.{NoJob}
use Rattle.node_threads.specs.Steps.{Done}

-- a step was made, or an event was refused in this state
pub data Made : Type 0 where
  Did : (step : Done) → Made
  WasRefused : (before : State) (event : Event) (why : ShardFault) → Made

-- a drop for which no job is in hand, and none was handed over
pub record HasNoJob (s : State) (event : Event) (why : ShardFault) : Type 0 where
  pub event_is : event ≡ DropJob None
  pub hand : s.hand ≡ None
  pub why_is : why ≡ NoJob

-- an event is refused by its first cause; and a drop where there is no job for it
abbrev pub Refuses : State → Event → ShardFault → Type 0
Refuses s event why = (shard_refusal s event ≡ Some why) ⊎ HasNoJob s event why

-- Each step is the shard's, the first of them from this state, and they lead to that one. What it
-- refused, it refused in the state between the steps, which that left as it was.
abbrev pub Logs : State → List Made → State → Type 0
Logs from [] to = to ≡ from
Logs from (Did d ∷ earlier) to = IsDone d.before d.event d.answer to × Logs from earlier d.before
Logs from (WasRefused before event why ∷ earlier) to =
    Refuses before event why × (to ≡ before) × Logs from earlier before

-- the steps alone
abbrev pub steps_in : List Made → List Done
steps_in [] = []
steps_in (Did d ∷ earlier) = d ∷ steps_in earlier
steps_in (WasRefused before event why ∷ earlier) = steps_in earlier
