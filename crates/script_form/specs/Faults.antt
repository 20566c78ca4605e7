-- The numbers of the refusals (profile).
use Rattle.std.specs.Prelude.{ℕ}
use Rattle.script_form.specs.declared.faults.ScriptFault.{ScriptFault}
use Rattle.script_form.specs.declared.faults.ScriptFault.TheVariants.{NotJson, BadShape, TooLong}

abbrev pub script_fault_number : ScriptFault → ℕ
script_fault_number NotJson = 90
script_fault_number BadShape = 91
script_fault_number TooLong = 92
