use Rattle.subj.specs.declared.limits.TheConstants.{WINDOW}
use Rattle.node_net.proofs.RouteLemmas.{ends_at}
use Rattle.node_net.proofs.route_link.RouteLink.receive_all.Goals as goal

pub returns-in-Some : goal.returns-in-Some
returns-in-Some g c =
    ends_at g.H.HubCalls.routed c.args.life.now c.receive_next-heard.result.end c.in-Some.end c.args.self.now
    c.loop-frame.self c.receive_next-heard.new.self c.args.hub.now c.loop-frame.hub c.receive_next-heard.new.hub
    c.loop-frame._frame WINDOW c.loop-frame.invariant.0 c.loop-frame-test.true c.receive_next-heard.ensures
    c.in-Some.is
