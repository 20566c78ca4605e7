use Rattle.std.proofs.Common.{codes}
use Rattle.std.proofs.lemmas.Result.{IfOk-weaker}
use Rattle.clap.specs.Words.{new_app, new_rule}
use Rattle.router_command.specs.Line.{node_with_incarnation, node_with_texts, number_rule, required_rule, text_rule, with_value}
use Rattle.router_command.proofs.Lines.{with_arg}
use Rattle.router_command.proofs.command.node_line.Goals as goal

pub returns : goal.returns
returns c =
    let one = IfOk-weaker c.arg-command.result _ _
    (λ command added.
    with_arg c.bare.result command c.place.result (new_app (codes "node")) (required_rule (new_rule (codes "NAME")))
    c.bare.ensures c.place.ensures added)
    c.arg-command.ensures in
    let two = c.with_arg-command.ensures _ (required_rule (text_rule (codes "mesh"))) one c.mesh_file.ensures in
    let three =
    c.with_arg-command-2.ensures _ (with_value (text_rule (codes "state")) (codes ".")) two c.state_folder.ensures in
    let four =
    c.with_arg-command-3.ensures node_with_texts (number_rule (codes "least-inc")) three c.least_inc.ensures in
    c.with_running.ensures node_with_incarnation four
