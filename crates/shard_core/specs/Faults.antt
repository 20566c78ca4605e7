-- The numbers of the refusals (profile).
use Rattle.std.specs.Prelude.{ℕ}
use Rattle.shard_core.specs.declared.faults.ShardFault.{ShardFault}
use Rattle.shard_core.specs.declared.faults.ShardFault.TheVariants.{NoConn, JobInHand, NoJob, WrongTurn, TooManySubs, BadIndex, NotAllTried, Spent, Draining}

abbrev pub shard_fault_number : ShardFault → ℕ
shard_fault_number NoConn = 50
shard_fault_number JobInHand = 51
shard_fault_number NoJob = 52
shard_fault_number WrongTurn = 53
shard_fault_number TooManySubs = 54
shard_fault_number BadIndex = 55
shard_fault_number NotAllTried = 56
shard_fault_number Spent = 57
shard_fault_number Draining = 59
