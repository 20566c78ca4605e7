-- The numbers of the refusals (profile).
use Rattle.std.specs.Prelude.{ℕ}
use Rattle.route_session.specs.declared.faults.SessionFault.{SessionFault}
use Rattle.route_session.specs.declared.faults.SessionFault.TheVariants.{WrongName, OldIncarnation, Duplicate, UnknownSession, TooManySessions, Spent}

abbrev pub session_fault_number : SessionFault → ℕ
session_fault_number WrongName = 70
session_fault_number OldIncarnation = 71
session_fault_number (Duplicate kept) = 72
session_fault_number UnknownSession = 73
session_fault_number TooManySessions = 74
session_fault_number Spent = 75
