use Rattle.node_net.proofs.RouteLemmas.{looks_there, looks_on, looks_in_vain}
use Rattle.node_net.proofs.route_link.RouteLink.look_ahead.Goals as goal

pub returns-then-is_some : goal.returns-then-is_some
returns-then-is_some c = looks_there c.args.self.now c.if-is_some.ensures

pub returns-in-Ok : goal.returns-in-Ok
returns-in-Ok c =
    looks_on c.args.self.now c.read_frame.new.self c.if-is_some.ensures c.in-Ok.ensures.same c.in-Ok.ensures.reads
    c.in-Ok.ensures.there

pub returns-in-Err : goal.returns-in-Err
returns-in-Err c =
    looks_in_vain c.args.self.now c.read_frame.new.self c.in-Err.end c.if-is_some.ensures c.in-Err.ensures.same
    c.in-Err.ensures.reads c.in-Err.ensures.ahead c.in-Err.ensures.err
