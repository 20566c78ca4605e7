use Rattle.std.proofs.Common.{codes}
use Rattle.std.proofs.lemmas.Result.{IfOk-weaker}
use Rattle.clap.specs.Words.{new_app}
use Rattle.router_command.specs.Line.{number_rule, required_rule, serve_with_defaults, serve_with_end, with_value}
use Rattle.router_command.proofs.Lines.{with_arg}
use Rattle.router_command.proofs.command.serve_line.Goals as goal

pub returns : goal.returns
returns c =
    let one = IfOk-weaker c.arg-command.result _ _
    (λ command added.
    with_arg c.bare.result command c.nodes.result (new_app (codes "serve"))
    (required_rule (number_rule (codes "nodes"))) c.bare.ensures c.nodes.ensures added)
    c.arg-command.ensures in
    let two = c.with_arg-command.ensures _ (required_rule (number_rule (codes "port"))) one c.port.ensures in
    let three =
    c.with_arg-command-2.ensures _ (with_value (number_rule (codes "shards")) (codes "2")) two c.shards.ensures in
    let four =
    c.with_arg-command-3.ensures _ (with_value (number_rule (codes "inc")) (codes "1")) three c.inc.ensures in
    let five =
    c.with_arg-command-4.ensures _ (with_value (number_rule (codes "word")) (codes "0")) four c.word.ensures in
    let six =
    c.with_arg-command-5.ensures serve_with_defaults (number_rule (codes "stop-after")) five c.stop_after.ensures in
    c.with_running.ensures serve_with_end six
