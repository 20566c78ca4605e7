-- The numbers of the refusals (profile), and what the refusals of interest are to a hub.
use Rattle.std.specs.Prelude.{ℕ}
use Rattle.interest.specs.declared.faults.InterestFault.{InterestFault}
use Rattle.interest.specs.declared.faults.InterestFault.TheVariants as interest
use Rattle.hub_core.specs.declared.faults.HubFault.{HubFault}
use Rattle.hub_core.specs.declared.faults.HubFault.TheVariants.{Draining, Busy, TooManyQueues, Spent, NotMe, OtherMe, NotInCluster, StaleOrigin, Late, Gap, BadInterest}

abbrev pub hub_fault_number : HubFault → ℕ
hub_fault_number Draining = 59
hub_fault_number (Busy busy) = 60
hub_fault_number TooManyQueues = 61
hub_fault_number Spent = 62
hub_fault_number NotMe = 63
hub_fault_number OtherMe = 64
hub_fault_number NotInCluster = 65
hub_fault_number StaleOrigin = 66
hub_fault_number Late = 67
hub_fault_number Gap = 68
hub_fault_number BadInterest = 69

abbrev pub fault_of_interest : InterestFault → HubFault
fault_of_interest interest.Late = Late
fault_of_interest interest.Gap = Gap
fault_of_interest interest.UnknownKey = BadInterest
fault_of_interest interest.TooManyKeys = BadInterest
