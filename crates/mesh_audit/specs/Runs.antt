-- What a program does that reads a log and tells what its audit finds, over any reader and writer
-- that tell their bytes (profile).
use Rattle.std.specs.Prelude.{◌≡◌, ℕ, ◌≤◌, List, [], ◌∷◌, ◌++◌, codes, decimal, Option, Some, None, Result, Ok, Err}
use Rattle.std.specs.Io.KnownBytes.{Appends, Consumes, IsAtEnd}
use Rattle.wire_cut.specs.Flow.{AppendsFront}
use Rattle.placement_audit.specs.Verdicts.{IsVerdict}
use Rattle.audit_log.specs.declared.faults.LogFault.{LogFault}
use Rattle.audit_log.specs.Faults.{log_fault_number}
use Rattle.audit_log.specs.Logs.{Log, log_of}
use Rattle.mesh_audit.specs.declared.running.AuditFault.{AuditFault}
use Rattle.mesh_audit.specs.declared.running.AuditFault.TheVariants.{Breach, Refused, Read, Write, OutOfMemory}

-- ---- what is written

-- of a log: `none`, or the number of the first placement that breaks the clause
abbrev pub verdict_line : Option ℕ → List ℕ
verdict_line None = codes "none\n"
verdict_line (Some number) = decimal number ++ codes "\n"

-- of what is no log: its refusal
abbrev pub refused_line : LogFault → List ℕ
refused_line fault = codes "audit refused " ++ (decimal (log_fault_number fault) ++ codes "\n")

-- what the audit of a log finds
abbrev pub IsFound : Log → Option ℕ → Type 0
IsFound log found = IsVerdict log.publications log.lives log.placements found

-- this is found, and the line of it was written
abbrev pub IsTold : Log → Option ℕ → Option (List ℕ) → Option (List ℕ) → Type 0
IsTold log found was is = IsFound log found × Appends was is (verdict_line found)

-- a front of a line of what is found, and not all of it
abbrev pub IsTornVerdict : Log → Option (List ℕ) → Option (List ℕ) → Type 0
IsTornVerdict log was is =
    (found : Option ℕ) × IsFound log found × AppendsFront was is (verdict_line found)

-- nothing is written for want of memory

abbrev pub TellsVerdict : {T : Type 0} → Log → Result T AuditFault → Option (List ℕ)
    → Option (List ℕ) → Type 0
TellsVerdict log (Ok x) was is = IsTold log None was is
TellsVerdict log (Err (Breach number)) was is = IsTold log (Some number) was is
TellsVerdict log (Err (Refused error)) was is = ⊥
TellsVerdict log (Err Read) was is = ⊥
TellsVerdict log (Err Write) was is = IsTornVerdict log was is
TellsVerdict log (Err OutOfMemory) was is = Appends was is []

abbrev pub TellsRefusal : {T : Type 0} → LogFault → Result T AuditFault → Option (List ℕ)
    → Option (List ℕ) → Type 0
TellsRefusal fault (Ok x) was is = ⊥
TellsRefusal fault (Err (Breach number)) was is = ⊥
TellsRefusal fault (Err (Refused error)) was is =
    (error.fault ≡ fault) × Appends was is (refused_line fault)
TellsRefusal fault (Err Read) was is = ⊥
TellsRefusal fault (Err Write) was is = AppendsFront was is (refused_line fault)
TellsRefusal fault (Err OutOfMemory) was is = Appends was is []

-- of what bytes are as a log
abbrev pub Tells : {T : Type 0} → Result Log LogFault → Result T AuditFault → Option (List ℕ)
    → Option (List ℕ) → Type 0
Tells (Ok log) result was is = TellsVerdict log result was is
Tells (Err fault) result was is = TellsRefusal fault result was is

-- ---- the whole

-- all was read, and is told of
pub record TellsAll {T : Type 0} (read : List ℕ) (result : Result T AuditFault)
    (left was is : Option (List ℕ)) : Type 0 where
  pub all : IsAtEnd left
  pub tells : Tells (log_of read) result was is

-- where a read failed, or memory was wanting before there was a log, nothing is written
abbrev pub Answers : {T : Type 0} → List ℕ → Result T AuditFault → Option (List ℕ) → Option (List ℕ)
    → Option (List ℕ) → Type 0
Answers read (Err Read) left was is = Appends was is []
Answers read (Err OutOfMemory) left was is = Appends was is []
Answers read result left was is = TellsAll read result left was is

-- the reader gave these bytes
pub record Audits {T : Type 0} (result : Result T AuditFault)
    (before left was is : Option (List ℕ)) : Type 0 where
  pub read : List ℕ
  pub consumed : Consumes before left read
  pub answers : Answers read result left was is

-- ---- the parts of that

-- reading alone fails so
abbrev pub IsOfReading : AuditFault → Type 0
IsOfReading Read = Unit {0}
IsOfReading OutOfMemory = Unit {0}
IsOfReading fault = ⊥

pub record HasRead (read : List ℕ) (before left : Option (List ℕ)) : Type 0 where
  pub consumed : Consumes before left read
  pub all : IsAtEnd left

-- some were read, and lost
pub record ReadsAway (before left : Option (List ℕ)) : Type 0 where
  pub bytes : List ℕ
  pub consumed : Consumes before left bytes
