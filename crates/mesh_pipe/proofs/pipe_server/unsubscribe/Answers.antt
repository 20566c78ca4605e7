use Rattle.node_law.specs.declared.events.ConnEvent.TheVariants.{Unsubscribe}
use Rattle.mesh_pipe.proofs.Server.Calls.{by_conn}
use Rattle.mesh_pipe.proofs.pipe_server.unsubscribe.Goals as goal

pub returns : goal.returns
returns g c =
    by_conn c.args.node.now c.unsubscribe.new.self c.args.conn (Unsubscribe c.args.sid.now c.args.max) _
    c.requires.serving c.requires.conn c.in-Ok.ensures.1
