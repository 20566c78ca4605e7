use Rattle.router_command.specs.Line.{check_command, drain_command, node_command, serve_command, tools}
use Rattle.router_command.proofs.command.line.Goals as goal

pub returns : goal.returns
returns c =
    let one = c.with_command-program.ensures tools serve_command c.tools.ensures c.serve_line.ensures in
    let two = c.with_command-program-2.ensures _ drain_command one c.drain_line.ensures in
    let three = c.with_command-program-3.ensures _ node_command two c.node_line.ensures in
    c.with_command.ensures _ check_command three c.check_line.ensures
