use Rattle.router_command.specs.Line.{control_rule, level_rule, loops_rule, seconds_rule}
use Rattle.router_command.proofs.command.with_running.Goals as goal

pub returns : goal.returns
returns c = λ app line.
    let one = c.with_arg-command.ensures app loops_rule line c.loops.ensures in
    let two = c.with_arg-command-2.ensures _ level_rule one c.log_level.ensures in
    let three = c.with_arg-command-3.ensures _ seconds_rule two c.drain_seconds.ensures in
    c.with_arg.ensures _ control_rule three c.control.ensures
