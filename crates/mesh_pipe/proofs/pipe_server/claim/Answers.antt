use Rattle.mesh_pipe.proofs.Server.Working.{has_claimed}
use Rattle.mesh_pipe.proofs.pipe_server.claim.Goals as goal

pub returns-in-Ok : goal.returns-in-Ok
returns-in-Ok g c =
    has_claimed c.args.node.now c.claim.new.self c.args.index _ c.requires.serving c.requires.last c.requires.free
    c.in-Ok.ensures.1
