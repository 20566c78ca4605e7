use Rattle.std.proofs.Common.{ap, sym, ◌∙◌, Some}
use Rattle.subj.specs.Names.{pattern_fault}
use Rattle.audit_log.specs.declared.entries.Text.TheVariants.{Pattern}
use Rattle.audit_log.proofs.Named.{name_means}
use Rattle.audit_log.proofs.entries.pattern.Goals as goal

pub returns : goal.returns
returns c =
    name_means pattern_fault Pattern _ _ _ (c.in_ok-text.ensures ∙ ap Some (sym c.deref.ensures.value))
    (c.valid.ensures _ _ c.read.ensures)
