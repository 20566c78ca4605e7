-- Which messages the shards placed, by what is written down of them.
use Rattle.std.specs.Prelude.{◌≡◌, Bool, cond, List, [], flat_map, map, option_to_list}
use Rattle.shard_core.specs.declared.calls.Placed.{Placed}
use Rattle.node_threads.specs.Steps.{placed_by}
use Rattle.node_threads.specs.declared.shard_entries.ShardEntry.{ShardEntry}
use Rattle.node_threads.specs.declared.shard_entries.ShardEvent.{ShardEvent}
use Rattle.node_threads.specs.declared.shard_entries.ShardEvent.TheVariants as event
use Rattle.thread_law.specs.Runs.{ShardRun}

abbrev pub placements_in : ShardEvent → List Placed
placements_in event.Attach = []
placements_in (event.Subscribe conn key sid) = []
placements_in (event.Unsubscribe conn sid max) = []
placements_in (event.Reply conn frame) = []
placements_in (event.SetHeaders conn on) = []
placements_in (event.Shut conn text) = []
placements_in (event.Detach conn) = []
placements_in (event.Take conn count) = []
placements_in (event.Begin job placed) = placed
placements_in (event.Claim index won placed) = option_to_list placed
placements_in event.End = []
placements_in (event.DropJob job) = []
placements_in event.Drain = []
placements_in (event.Collect deltas) = []

-- by a shard, in order
abbrev pub placements_on : List ShardEntry → List Placed
placements_on tape = flat_map (λ entry. placements_in entry.event) tape

-- by each shard, that of shard 1 first
abbrev pub all_placements : List (List ShardEntry) → List (List Placed)
all_placements tapes = map placements_on tapes

-- ---- the messages that were put

abbrev pub put_in : Bool → ShardRun → List Placed
put_in kept run = cond kept (placed_by run.steps) []

-- just those that each shard put in its run, in order, where that is written down
abbrev pub ArePlaced : Bool → List ShardRun → List (List ShardEntry) → Type 0
ArePlaced kept runs tapes = all_placements tapes ≡ map (put_in kept) runs
