-- What is told of a log that was read.
use Rattle.std.proofs.Common.{◌≡◌, ℕ, List, Option, Result, Ok, Err, sym, subst}
use Rattle.std.specs.Io.KnownBytes.{Consumes, IsAtEnd}
use Rattle.std.proofs.KnownBytes.{Appends-nil}
use Rattle.audit_log.specs.declared.faults.LogFault.{LogFault}
use Rattle.audit_log.specs.Logs.{Log, log_of}
use Rattle.mesh_audit.specs.declared.running.AuditFault.{AuditFault}
use Rattle.mesh_audit.specs.declared.running.AuditFault.TheVariants.{Breach, Refused, Read, Write, OutOfMemory}
use Rattle.mesh_audit.specs.Runs.{Audits, IsOfReading, ReadsAway, Tells, TellsAll, TellsRefusal, TellsVerdict}

-- reading failed
pub reading_failed : {T : Type 0} (fault : AuditFault) (before left was : Option (List ℕ))
    → IsOfReading fault
    → ReadsAway before left
    → Audits {T = T} (Err fault) before left was was
reading_failed (Breach number) before left was of_reading away = absurd of_reading
reading_failed (Refused error) before left was of_reading away = absurd of_reading
reading_failed Read before left was of_reading away = record {
  read = away.bytes;
  consumed = away.consumed;
  answers = Appends-nil was;
}
reading_failed Write before left was of_reading away = absurd of_reading
reading_failed OutOfMemory before left was of_reading away = record {
  read = away.bytes;
  consumed = away.consumed;
  answers = Appends-nil was;
}

-- memory was wanting before there was a log
pub no_memory : {T : Type 0} (read : List ℕ) (before left was : Option (List ℕ))
    → Consumes before left read
    → Audits {T = T} (Err OutOfMemory) before left was was
no_memory read before left was consumed = record { read = read; consumed = consumed; answers = Appends-nil was }

module _ (read : List ℕ) (before left was is : Option (List ℕ)) (consumed : Consumes before left read)
    (all : IsAtEnd left) where
  whole : {T : Type 0} (result : Result T AuditFault) (means : Result Log LogFault)
      → log_of read ≡ means
      → Tells means result was is
      → TellsAll read result left was is
  whole result means is_log tells = record {
    all = all;
    tells = subst (λ (m : Result Log LogFault). Tells m result was is) (sym is_log) tells;
  }

  pub verdict_told : {T : Type 0} (result : Result T AuditFault) (log : Log)
      → log_of read ≡ Ok log
      → TellsVerdict log result was is
      → Audits result before left was is
  verdict_told (Ok x) log means tells = record {
    read = read;
    consumed = consumed;
    answers = whole (Ok x) (Ok log) means tells;
  }
  verdict_told (Err (Breach number)) log means tells = record {
    read = read;
    consumed = consumed;
    answers = whole (Err (Breach number)) (Ok log) means tells;
  }
  verdict_told (Err (Refused error)) log means tells = absurd tells
  verdict_told (Err Read) log means tells = absurd tells
  verdict_told (Err Write) log means tells = record {
    read = read;
    consumed = consumed;
    answers = whole (Err Write) (Ok log) means tells;
  }
  verdict_told (Err OutOfMemory) log means tells = record { read = read; consumed = consumed; answers = tells }

  pub refusal_told : {T : Type 0} (result : Result T AuditFault) (fault : LogFault)
      → log_of read ≡ Err fault
      → TellsRefusal fault result was is
      → Audits result before left was is
  refusal_told (Ok x) fault means tells = absurd tells
  refusal_told (Err (Breach number)) fault means tells = absurd tells
  refusal_told (Err (Refused error)) fault means tells = record {
    read = read;
    consumed = consumed;
    answers = whole (Err (Refused error)) (Err fault) means tells;
  }
  refusal_told (Err Read) fault means tells = absurd tells
  refusal_told (Err Write) fault means tells = record {
    read = read;
    consumed = consumed;
    answers = whole (Err Write) (Err fault) means tells;
  }
  refusal_told (Err OutOfMemory) fault means tells = record { read = read; consumed = consumed; answers = tells }
