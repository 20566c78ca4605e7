-- The numbers of the refusals.
use Rattle.std.specs.Prelude.{ℕ}
use Rattle.wire_cut.specs.declared.faults.CutFault.{CutFault}
use Rattle.wire_cut.specs.declared.faults.CutFault.TheVariants.{LineTooLong, PayloadTooLong, NoCrLfAfterPayload}

abbrev pub cut_fault_number : CutFault → ℕ
cut_fault_number LineTooLong = 10
cut_fault_number PayloadTooLong = 11
cut_fault_number NoCrLfAfterPayload = 12
