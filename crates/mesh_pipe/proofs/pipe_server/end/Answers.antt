use Rattle.mesh_pipe.proofs.Server.Working.{has_ended}
use Rattle.mesh_pipe.proofs.pipe_server.end.Goals as goal

pub returns-in-Ok : goal.returns-in-Ok
returns-in-Ok g c = has_ended c.args.node.now c.end.new.self c.requires.serving c.in-Ok.ensures.0 c.in-Ok.ensures.1.step
