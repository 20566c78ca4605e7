-- The numbers of the refusals (profile).
use Rattle.std.specs.Prelude.{ℕ}
use Rattle.hub_core.specs.Faults.{hub_fault_number}
use Rattle.route_session.specs.Faults.{session_fault_number}
use Rattle.shard_core.specs.Faults.{shard_fault_number}
use Rattle.node_law.specs.declared.faults.NodeFault.{NodeFault}
use Rattle.node_law.specs.declared.faults.NodeFault.TheVariants.{NoShard, Shard, Hub, Session}

abbrev pub node_fault_number : NodeFault → ℕ
node_fault_number NoShard = 58
node_fault_number (Shard fault) = shard_fault_number fault
node_fault_number (Hub fault) = hub_fault_number fault
node_fault_number (Session fault) = session_fault_number fault
