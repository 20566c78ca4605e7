-- The numbers of the refusals (profile).
use Rattle.std.specs.Prelude.{ℕ}
use Rattle.node_law.specs.Faults.{node_fault_number}
use Rattle.world_law.specs.declared.faults.WorldFault.{WorldFault}
use Rattle.world_law.specs.declared.faults.WorldFault.TheVariants as fault

abbrev pub world_fault_number : WorldFault → ℕ
world_fault_number fault.NodeDown = 80
world_fault_number fault.NodeUp = 81
world_fault_number fault.UsedIncarnation = 82
world_fault_number fault.NoSuch = 83
world_fault_number (fault.Node why) = node_fault_number why
