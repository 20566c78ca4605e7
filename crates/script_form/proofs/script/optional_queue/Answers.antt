use Rattle.std.proofs.Common.{ap, sym, ◌∙◌, Some}
use Rattle.std.specs.Option.{option_copied}
use Rattle.subj.specs.Names.{queue_name_fault}
use Rattle.script_form.proofs.Named.{optional_name_means}
use Rattle.script_form.proofs.script.optional_queue.Goals as goal

pub returns-in-Some : goal.returns-in-Some
returns-in-Some c =
    let found = c.in_ok-optional_text.ensures ∙ ap (λ text. Some (option_copied text)) c.in-Some.is
    ∙ ap (λ text. Some (Some text)) (sym c.as_bytes.ensures.value) in
    optional_name_means queue_name_fault c.args.member _ _ _ found (c.some_member_name.ensures _ _ c.read.ensures)
