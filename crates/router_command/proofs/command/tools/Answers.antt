use Rattle.std.proofs.Common.{codes}
use Rattle.std.proofs.lemmas.Result.{IfOk-weaker}
use Rattle.clap.specs.Words.{new_app}
use Rattle.router_command.specs.Line.{match_command, program, script_command}
use Rattle.router_command.proofs.Lines.{with_command}
use Rattle.router_command.proofs.command.tools.Goals as goal

pub returns : goal.returns
returns c =
    let one = IfOk-weaker c.subcommand-program.result _ _
    (λ command added.
    with_command c.program.result command c.bare-pipe.result program (new_app (codes "pipe")) c.program.ensures
    c.bare-pipe.ensures added)
    c.subcommand-program.ensures in
    let two = c.with_command-program.ensures _ match_command one c.match_line.ensures in
    let three = c.with_command-program-2.ensures _ script_command two c.script_line.ensures in
    c.with_command.ensures _ (new_app (codes "audit")) three c.bare-audit.ensures
