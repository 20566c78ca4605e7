use Rattle.std.proofs.Common.{ap, codes}
use Rattle.std.proofs.lemmas.Result.{IfOk-weaker}
use Rattle.clap.specs.Words.{new_app, new_rule, rule_of}
use Rattle.clap.specs.declared.builder.arg.Arg.{Arg}
use Rattle.router_command.specs.Line.{HasRule, required_rule}
use Rattle.router_command.proofs.Lines.{same_but, with_arg}
use Rattle.router_command.proofs.command.drain_line.Goals as goal

pub returns : goal.returns
returns c =
    let new : HasRule c.new.result (new_rule (codes "NAME")) = record {
      same = c.new.ensures.rule;
      local = c.new.ensures.optional.1;
    } in
    let server = same_but c.new.result c.help-server.result (λ r. r) (new_rule (codes "NAME")) new
    (ap (λ (a : Arg). rule_of a) c.help-server.ensures) (ap (λ (a : Arg). a.global) c.help-server.ensures) in
    let one = IfOk-weaker c.arg-command.result _ _
    (λ command added.
    with_arg c.bare.result command c.place.result (new_app (codes "drain")) (required_rule (new_rule (codes "PATH")))
    c.bare.ensures c.place.ensures added)
    c.arg-command.ensures in
    c.with_arg.ensures _ (new_rule (codes "NAME")) one server
