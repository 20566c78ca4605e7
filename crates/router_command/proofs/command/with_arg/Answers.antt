use Rattle.std.proofs.lemmas.Result.{IfOk-weaker}
use Rattle.router_command.proofs.Lines.{with_arg}
use Rattle.router_command.proofs.command.with_arg.Goals as goal

pub returns : goal.returns
returns c = λ app rule line has.
    IfOk-weaker c.arg.result _ _
    (λ command added.
    with_arg c.in_ok-command.field-0 command c.args.arg app rule (rw c.in_ok-command.was at line) has added)
    c.arg.ensures
