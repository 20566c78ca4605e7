-- The numbers of refusals (profile).
use Rattle.std.specs.Prelude.{ℕ}
use Rattle.subj.specs.declared.faults.NameFault.{NameFault}
use Rattle.subj.specs.declared.faults.NameFault.TheVariants.{Empty, EmptyToken, BadByte, TooLong, WildNotLast, Wild}

abbrev pub name_fault_number : NameFault → ℕ
name_fault_number Empty = 1
name_fault_number EmptyToken = 2
name_fault_number BadByte = 3
name_fault_number TooLong = 4
name_fault_number WildNotLast = 5
name_fault_number Wild = 6
