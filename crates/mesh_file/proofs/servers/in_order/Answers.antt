use Rattle.std.proofs.Common.{◌<◌, length, arith}
use Rattle.mesh_file.proofs.Ordered.{inserted}
use Rattle.mesh_file.proofs.servers.in_order.Goals as goal

pub loop-server-preserved : goal.loop-server-preserved
loop-server-preserved c =
    let within : c.loop-server.server-index < length c.args.servers.now = omega arith in
    let both = inserted c.args.servers.now c.loop-server.ordered.items c.insert.new.self.items c.deref.result.now
    c.loop-server.server-index c.place_for-place.result c.server-item.result c.requires within c.server-item.is
    c.loop-server.invariant.same c.loop-server.invariant.rising c.deref.ensures.value c.place_for-place.ensures.same
    c.in_ok-insert.ensures.items in
    record { same = both.0; rising = both.1 }
