use Rattle.std.proofs.Common.{refl}
use Rattle.mesh_pipe.proofs.Text.Answering.{subscribe_served}
use Rattle.mesh_pipe.proofs.pipe_server.PipeServer.subscribe.Goals as goal

pub returns-in_ok-collect-in-Ok : goal.returns-in_ok-collect-in-Ok
returns-in_ok-collect-in-Ok g c =
    let opened = rw (c.in-Ok.is, c.in_ok-key.ensures, c.in_ok-sid.ensures) at c.in_ok-subscribe.ensures in
    subscribe_served c.args.self.now _ _ c.args.key.now c.args.sid.now c.requires opened.0 opened.1
    c.in_ok-collect-in-Ok.ensures refl refl
