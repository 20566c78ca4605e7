use Rattle.std.proofs.Common.{Some, None}
use Rattle.mesh_file.proofs.Ordered.{found_place}
use Rattle.mesh_file.proofs.servers.place_for.Goals as goal

pub returns-in-Some-clause-same : goal.returns-in-Some-clause-same
returns-in-Some-clause-same c =
    found_place c.args.server.now c.args.servers.now (Some c.in-Some.place) c.in-Some.ensures

pub returns-in-None-clause-same : goal.returns-in-None-clause-same
returns-in-None-clause-same c = found_place c.args.server.now c.args.servers.now None c.in-None.ensures
