use Rattle.node_threads.specs.AtHub.{hub_at}
use Rattle.route_session.specs.Events.{OnConnect, Kept}
use Rattle.route_session.specs.Steps.{session_refusal}
use Rattle.node_parts.specs.Sides.{BySessions, OfSessions, seen_name}
use Rattle.node_threads.proofs.Hubs.HubCalls.{does_call, quiet_sessions}
use Rattle.node_threads.proofs.hub_state.HubState.connect.Goals as goal

pub invariant_of-self : goal.invariant_of-self
invariant_of-self g c =
    let s = c.self.inside in
    let i = c.self.invariant in (
      (does_call g.N.NodeName.race.shards (hub_at s.side s.seat.part s.finished s.outlet) c.connect.new.self
          (BySessions (OnConnect c.args.session c.args.connect.now (seen_name s.side c.args.connect.now.server_name)))
          (λ n. OfSessions (Kept n.instead_of))
          (session_refusal s.side.server s.side.sessions
          (OnConnect c.args.session c.args.connect.now (seen_name s.side c.args.connect.now.server_name)))
          c.connect.result
          (quiet_sessions s.side
          (OnConnect c.args.session c.args.connect.now (seen_name s.side c.args.connect.now.server_name)))
          i.0 c.connect.ensures).keeps,
      i.1,
    )
