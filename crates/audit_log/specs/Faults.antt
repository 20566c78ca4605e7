-- The numbers of the refusals (profile).
use Rattle.std.specs.Prelude.{ℕ}
use Rattle.audit_log.specs.declared.faults.LogFault.{LogFault}
use Rattle.audit_log.specs.declared.faults.LogFault.TheVariants.{NotJson, BadShape}

abbrev pub log_fault_number : LogFault → ℕ
log_fault_number NotJson = 90
log_fault_number BadShape = 91
