use Rattle.node_law.specs.declared.events.ConnEvent.TheVariants.{SetHeaders}
use Rattle.mesh_pipe.proofs.Server.Calls.{by_conn}
use Rattle.mesh_pipe.proofs.pipe_server.set_headers.Goals as goal

pub returns : goal.returns
returns g c =
    by_conn c.args.node.now c.set_headers.new.self c.args.conn (SetHeaders c.args.on) _ c.requires.serving
    c.requires.conn c.in-Ok.ensures.1
