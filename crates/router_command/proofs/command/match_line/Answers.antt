use Rattle.std.proofs.Common.{ap, codes}
use Rattle.std.proofs.lemmas.Result.{IfOk-weaker}
use Rattle.clap.specs.Words.{new_app, new_rule, rule_of}
use Rattle.clap.specs.declared.builder.arg.Arg.{Arg}
use Rattle.router_command.specs.Line.{HasRule, required_rule}
use Rattle.router_command.proofs.Lines.{same_but, with_arg}
use Rattle.router_command.proofs.command.match_line.Goals as goal

pub returns : goal.returns
returns c =
    let new : HasRule c.new.result (new_rule (codes "PATTERN")) = record {
      same = c.new.ensures.rule;
      local = c.new.ensures.optional.1;
    } in
    let pattern = same_but c.new.result c.required.result required_rule (new_rule (codes "PATTERN")) new
    (ap (λ (a : Arg). rule_of a) c.required.ensures) (ap (λ (a : Arg). a.global) c.required.ensures) in
    let bare : HasRule c.new-2.result (new_rule (codes "SUBJECT")) = record {
      same = c.new-2.ensures.rule;
      local = c.new-2.ensures.optional.1;
    } in
    let subject = same_but c.new-2.result c.required-2.result required_rule (new_rule (codes "SUBJECT")) bare
    (ap (λ (a : Arg). rule_of a) c.required-2.ensures) (ap (λ (a : Arg). a.global) c.required-2.ensures) in
    let one = IfOk-weaker c.arg-command.result _ _
    (λ command added.
    with_arg c.bare.result command c.required.result (new_app (codes "match"))
    (required_rule (new_rule (codes "PATTERN"))) c.bare.ensures pattern added)
    c.arg-command.ensures in
    c.with_arg.ensures _ (required_rule (new_rule (codes "SUBJECT"))) one subject
