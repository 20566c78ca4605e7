-- The numbers of the refusals (profile).
use Rattle.std.specs.Prelude.{ℕ}
use Rattle.client_frames.specs.declared.faults.LineFault.{LineFault}
use Rattle.client_frames.specs.declared.faults.LineFault.TheVariants.{UnknownOp, BadArgs, BadJson, BadSubject, BadHeader}

abbrev pub line_fault_number : LineFault → ℕ
line_fault_number UnknownOp = 20
line_fault_number BadArgs = 21
line_fault_number BadJson = 22
line_fault_number BadSubject = 23
line_fault_number BadHeader = 24
