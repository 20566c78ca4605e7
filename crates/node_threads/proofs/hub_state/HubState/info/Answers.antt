use Rattle.node_threads.specs.AtHub.{hub_at}
use Rattle.route_session.specs.Events.{OnInfo, KeptAfterInfo}
use Rattle.route_session.specs.Steps.{session_refusal}
use Rattle.node_parts.specs.Sides.{BySessions, OfSessions, seen_name}
use Rattle.node_threads.proofs.Hubs.HubCalls.{does_call, quiet_sessions}
use Rattle.node_threads.proofs.hub_state.HubState.info.Goals as goal

pub invariant_of-self : goal.invariant_of-self
invariant_of-self g c =
    let s = c.self.inside in
    let i = c.self.invariant in (
      (does_call g.N.NodeName.race.shards (hub_at s.side s.seat.part s.finished s.outlet) c.info.new.self
          (BySessions (OnInfo c.args.session c.args.info.now (seen_name s.side c.args.info.now.server_name)))
          (λ n. OfSessions (KeptAfterInfo n.0.instead_of n.1))
          (session_refusal s.side.server s.side.sessions
          (OnInfo c.args.session c.args.info.now (seen_name s.side c.args.info.now.server_name)))
          c.info.result
          (quiet_sessions s.side (OnInfo c.args.session c.args.info.now (seen_name s.side c.args.info.now.server_name)))
          i.0 c.info.ensures).keeps,
      i.1,
    )
