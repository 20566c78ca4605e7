use Rattle.subj.specs.Names.{queue_name_fault}
use Rattle.audit_log.specs.declared.entries.Text.TheVariants.{Queue}
use Rattle.audit_log.proofs.Named.{optional_name_means}
use Rattle.audit_log.proofs.entries.queue.Goals as goal

pub returns-in-Some : goal.returns-in-Some
returns-in-Some c =
    optional_name_means queue_name_fault Queue _ _ _ _ _ _ c.in_ok-optional_bytes.ensures c.in-Some.is
    c.deref.ensures.value (c.some_valid.ensures _ _ c.read.ensures)
