use Rattle.std.proofs.Common.{ap, sym, ◌∙◌, Some}
use Rattle.subj.specs.Names.{sid_fault}
use Rattle.audit_log.specs.declared.entries.Text.TheVariants.{Sid}
use Rattle.audit_log.proofs.Named.{name_means}
use Rattle.audit_log.proofs.entries.sid.Goals as goal

pub returns : goal.returns
returns c =
    name_means sid_fault Sid _ _ _ (c.in_ok-text.ensures ∙ ap Some (sym c.deref.ensures.value))
    (c.valid.ensures _ _ c.read.ensures)
