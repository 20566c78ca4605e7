-- As many frames are handed over as the loop has turned, and the run goes on.
use Rattle.std.proofs.Common.{◌≡◌}
use Rattle.node_net.proofs.RouteLemmas.{SoFar}
use Rattle.node_net.specs.declared.runs.Ran.TheVariants.{Goes}
use Rattle.node_net.proofs.route_link.RouteLink.receive_all.Given as goal

abbrev pub invariant-loop-frame : goal.invariant-loop-frame
invariant-loop-frame g l =
    SoFar g.H.HubCalls.routed l.life l.fn.self l.self l.fn.hub l.hub l._frame × (l.run.end ≡ Goes)
