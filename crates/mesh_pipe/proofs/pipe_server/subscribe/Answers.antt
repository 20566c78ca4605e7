use Rattle.node_law.specs.declared.events.ConnEvent.TheVariants.{Subscribe}
use Rattle.mesh_pipe.proofs.Server.Calls.{opens, opens_not}
use Rattle.mesh_pipe.proofs.pipe_server.subscribe.Goals as goal

pub returns-in-Ok : goal.returns-in-Ok
returns-in-Ok g c =
    opens c.args.node.now c.subscribe.new.self c.args.conn (Subscribe c.args.key c.args.sid) _ c.requires.serving
    c.requires.conn c.in-Ok.ensures.0 c.in-Ok.ensures.1

pub returns-in-Err-Refused : goal.returns-in-Err-Refused
returns-in-Err-Refused g c =
    let refused = rw c.in-Err-Refused.field-0-is at c.in-Err-Refused.ensures in
    opens_not c.args.node.now c.subscribe.new.self c.args.conn (Subscribe c.args.key c.args.sid) c.in-Err-Refused.fault
    c.refusal_of.result c.requires.serving c.requires.conn refused.0 c.refusal_of.ensures refused.1
