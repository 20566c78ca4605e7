-- What a client is told of a refusal. (Profile.)
use Rattle.client_conn.specs.declared.ask.Refusal.{Refusal}
use Rattle.client_conn.specs.declared.ask.Refusal.TheVariants as refusal
use Rattle.shard_core.specs.declared.faults.ShardFault.{ShardFault}
use Rattle.shard_core.specs.declared.faults.ShardFault.TheVariants as shard_fault
use Rattle.hub_core.specs.declared.faults.HubFault.{HubFault}
use Rattle.hub_core.specs.declared.faults.HubFault.TheVariants as hub_fault

-- of its shard
abbrev pub refusal_of_shard : ShardFault → Refusal
refusal_of_shard shard_fault.TooManySubs = refusal.TooManySubscriptions
refusal_of_shard shard_fault.Spent = refusal.NumbersSpent
refusal_of_shard shard_fault.Draining = refusal.Draining
refusal_of_shard fault = refusal.Other

-- of the hub
abbrev pub refusal_of_hub : HubFault → Refusal
refusal_of_hub (hub_fault.Busy busy) = refusal.Busy
refusal_of_hub hub_fault.TooManyQueues = refusal.TooManyQueueGroups
refusal_of_hub hub_fault.Spent = refusal.NumbersSpent
refusal_of_hub fault = refusal.Other
