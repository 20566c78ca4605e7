use Rattle.std.proofs.Common.{ap, sym, ◌∙◌, Some}
use Rattle.subj.specs.Names.{subject_fault}
use Rattle.audit_log.specs.declared.entries.Text.TheVariants.{Subject}
use Rattle.audit_log.proofs.Named.{name_means}
use Rattle.audit_log.proofs.entries.subject.Goals as goal

pub returns : goal.returns
returns c =
    name_means subject_fault Subject _ _ _ (c.in_ok-text.ensures ∙ ap Some (sym c.deref.ensures.value))
    (c.valid.ensures _ _ c.read.ensures)
