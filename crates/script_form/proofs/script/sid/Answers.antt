use Rattle.std.proofs.Common.{ap, sym, ◌∙◌, Some}
use Rattle.subj.specs.Names.{sid_fault}
use Rattle.script_form.proofs.Named.{name_means}
use Rattle.script_form.proofs.script.sid.Goals as goal

pub returns : goal.returns
returns c =
    name_means sid_fault c.args.member _ _ _ (c.in_ok-text.ensures ∙ ap Some (sym c.as_bytes.ensures.value))
    (c.member_name.ensures _ _ c.read.ensures)
