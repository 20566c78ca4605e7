use Rattle.std.proofs.Common.{ap, codes, Some}
use Rattle.std.proofs.lemmas.Result.{IfOk-weaker}
use Rattle.clap.specs.Words.{new_app, new_rule, rule_of}
use Rattle.clap.specs.declared.builder.action.ArgAction.TheVariants.{SetTrue}
use Rattle.clap.specs.declared.builder.arg.Arg.{Arg}
use Rattle.router_command.specs.Line.{HasRule, audit_rule}
use Rattle.router_command.proofs.Lines.{same_but, with_arg}
use Rattle.router_command.proofs.command.script_line.Goals as goal

pub returns : goal.returns
returns c =
    let new : HasRule c.new.result (new_rule (codes "audit")) = record {
      same = c.new.ensures.rule;
      local = c.new.ensures.optional.1;
    } in
    let long = same_but c.new.result c.long.result (λ r. record r { long = Some (codes "audit") })
    (new_rule (codes "audit")) new (ap (λ (a : Arg). rule_of a) c.long.ensures)
    (ap (λ (a : Arg). a.global) c.long.ensures) in
    let flag = same_but c.long.result c.action.result (λ r. record r { action = Some SetTrue }) _ long
    (ap (λ (a : Arg). rule_of a) c.action.ensures) (ap (λ (a : Arg). a.global) c.action.ensures) in
    let audit = same_but c.action.result c.help-audit.result (λ r. r) audit_rule flag
    (ap (λ (a : Arg). rule_of a) c.help-audit.ensures) (ap (λ (a : Arg). a.global) c.help-audit.ensures) in
    IfOk-weaker c.arg.result _ _
    (λ command added.
    with_arg c.bare.result command c.help-audit.result (new_app (codes "script")) audit_rule c.bare.ensures audit added)
    c.arg.ensures
