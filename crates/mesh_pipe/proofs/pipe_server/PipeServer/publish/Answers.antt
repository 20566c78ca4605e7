use Rattle.std.proofs.Common.{refl}
use Rattle.mesh_pipe.proofs.Text.Answering.{publish_outcome, published_known}
use Rattle.mesh_pipe.proofs.pipe_server.PipeServer.publish.Goals as goal

pub take_any-requires-clause-known : goal.take_any-requires-clause-known
take_any-requires-clause-known g c =
    let done = rw c.in-Ok.is at c.in_ok-publish.ensures in
    published_known c.args.self.now _ _ _ c.args.publication.now c.in_ok-shut-in-Ok.shut c.requires done.1
    c.in_ok-shut-in-Ok.ensures c.in_ok-collect-in-Ok.ensures

pub returns-in_ok-take_any-in-Ok : goal.returns-in_ok-take_any-in-Ok
returns-in_ok-take_any-in-Ok g c =
    let done = rw c.in-Ok.is at c.in_ok-publish.ensures in
    publish_outcome c.outcome_of.result c.args.self.now _ _ _ _ c.args.publication.now c.in_ok-shut-in-Ok.shut
    c.outcome_of.ensures c.requires done.0 done.1 c.in_ok-shut-in-Ok.ensures c.in_ok-collect-in-Ok.ensures
    c.in_ok-take_any-in-Ok.ensures.steps c.in_ok-take_any-in-Ok.ensures.text refl
