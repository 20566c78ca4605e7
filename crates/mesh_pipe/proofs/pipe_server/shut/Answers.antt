use Rattle.node_law.specs.declared.events.ConnEvent.TheVariants.{Shut}
use Rattle.mesh_pipe.proofs.Server.Calls.{by_conn}
use Rattle.mesh_pipe.proofs.pipe_server.shut.Goals as goal

pub returns-in-Ok : goal.returns-in-Ok
returns-in-Ok g c =
    by_conn c.args.node.now c.shut.new.self c.args.conn (Shut c.args.text) _ c.requires.serving c.requires.conn
    c.in-Ok.ensures.1
