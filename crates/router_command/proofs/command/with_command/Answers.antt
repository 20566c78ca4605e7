use Rattle.std.proofs.lemmas.Result.{IfOk-weaker}
use Rattle.router_command.proofs.Lines.{with_command}
use Rattle.router_command.proofs.command.with_command.Goals as goal

pub returns : goal.returns
returns c = λ app part line sub.
    IfOk-weaker c.subcommand.result _ _
    (λ command added.
    with_command c.in_ok-program.field-0 command c.in_ok-command.field-0 app part (rw c.in_ok-program.was at line)
    (rw c.in_ok-command.was at sub) added)
    c.subcommand.ensures
