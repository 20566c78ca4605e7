use Rattle.std.proofs.Common.{ap}
use Rattle.clap.specs.Words.{new_rule, rule_of}
use Rattle.clap.specs.declared.builder.arg.Arg.{Arg}
use Rattle.router_command.specs.Line.{HasRule, required_rule}
use Rattle.router_command.proofs.Lines.{same_but}
use Rattle.router_command.proofs.command.place.Goals as goal

pub returns : goal.returns
returns c =
    let name = c.args.name.now in
    let new : HasRule c.new.result (new_rule name) = record {
      same = c.new.ensures.rule;
      local = c.new.ensures.optional.1;
    } in
    let needed = same_but c.new.result c.required.result required_rule (new_rule name) new
    (ap (λ (a : Arg). rule_of a) c.required.ensures) (ap (λ (a : Arg). a.global) c.required.ensures) in
    same_but c.required.result c.help.result (λ r. r) (required_rule (new_rule name)) needed
    (ap (λ (a : Arg). rule_of a) c.help.ensures) (ap (λ (a : Arg). a.global) c.help.ensures)
