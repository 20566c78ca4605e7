-- The numbers of the refusals (profile).
use Rattle.std.specs.Prelude.{ℕ}
use Rattle.interest.specs.declared.faults.InterestFault.{InterestFault}
use Rattle.interest.specs.declared.faults.InterestFault.TheVariants.{Late, Gap, UnknownKey, TooManyKeys}

abbrev pub interest_fault_number : InterestFault → ℕ
interest_fault_number Late = 40
interest_fault_number Gap = 41
interest_fault_number UnknownKey = 42
interest_fault_number TooManyKeys = 43
