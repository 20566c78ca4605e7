use Rattle.std.proofs.Common.{codes}
use Rattle.std.proofs.lemmas.Result.{IfOk-weaker}
use Rattle.clap.specs.Words.{new_app, new_rule}
use Rattle.router_command.specs.Line.{required_rule}
use Rattle.router_command.proofs.Lines.{with_arg}
use Rattle.router_command.proofs.command.check_line.Goals as goal

pub returns : goal.returns
returns c =
    IfOk-weaker c.arg.result _ _
    (λ command added.
    with_arg c.bare.result command c.place.result (new_app (codes "check")) (required_rule (new_rule (codes "FILE")))
    c.bare.ensures c.place.ensures added)
    c.arg.ensures
