use Rattle.node_law.specs.declared.events.ConnEvent.TheVariants.{Reply}
use Rattle.mesh_pipe.proofs.Server.Calls.{by_conn}
use Rattle.mesh_pipe.proofs.pipe_server.reply.Goals as goal

pub returns-in-Ok-clause-steps : goal.returns-in-Ok-clause-steps
returns-in-Ok-clause-steps g c =
    by_conn c.args.node.now c.reply.new.self c.args.conn (Reply c.args.frame.now) _ c.requires.serving c.requires.conn
    c.in-Ok.ensures.1
