-- The numbers of the refusals (profile).
use Rattle.std.specs.Prelude.{ℕ}
use Rattle.route_frames.specs.declared.faults.RouteFault.{RouteFault}
use Rattle.route_frames.specs.declared.faults.RouteFault.TheVariants.{UnknownOp, BadArgs, BadNumber, TooManyQueues}

abbrev pub route_fault_number : RouteFault → ℕ
route_fault_number UnknownOp = 30
route_fault_number BadArgs = 31
route_fault_number BadNumber = 32
route_fault_number TooManyQueues = 33
