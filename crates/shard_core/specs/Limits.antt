-- The limits of what waits for a connection: each connection has those of the router.
use Rattle.std.specs.Prelude.{◌≡◌, ℕ, Result}
use Rattle.list_laws.specs.Lists.{Each}
use Rattle.subj.specs.declared.limits.TheConstants.{OUTBOX_ENTRIES, OUTBOX_BYTES}
use Rattle.shard_core.specs.declared.faults.ShardFault.{ShardFault}
use Rattle.shard_core.specs.Shards.{State, Client, new_shard}
use Rattle.shard_core.specs.ShardEvents.{Event, Answer}
use Rattle.shard_core.specs.ShardSteps.{IsStep}

pub record HasLimits (client : Client) : Type 0 where
  pub entries : client.max_entries ≡ OUTBOX_ENTRIES
  pub bytes : client.max_bytes ≡ OUTBOX_BYTES

-- so it is in a new shard, which has no connections, and each step keeps it
pub record LimitsStay : Type 0 where
  pub start : (shard shards : ℕ) → Each HasLimits (new_shard shard shards).clients
  pub step : (old : State) (event : Event) (outcome : Result Answer ShardFault) (new : State)
      → IsStep old event outcome new
      → Each HasLimits old.clients
      → Each HasLimits new.clients
