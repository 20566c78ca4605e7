use Rattle.node_threads.specs.AtHub.{hub_at}
use Rattle.route_session.specs.Events.{Accept, Accepted}
use Rattle.route_session.specs.Steps.{session_refusal}
use Rattle.node_parts.specs.Sides.{BySessions, OfSessions}
use Rattle.node_threads.proofs.Hubs.HubCalls.{does_call, quiet_sessions}
use Rattle.node_threads.proofs.hub_state.HubState.accept.Goals as goal

pub invariant_of-self : goal.invariant_of-self
invariant_of-self g c =
    let s = c.self.inside in
    let i = c.self.invariant in (
      (does_call g.N.NodeName.race.shards (hub_at s.side s.seat.part s.finished s.outlet) c.accept.new.self
          (BySessions Accept) (λ n. OfSessions (Accepted n.0 n.1))
          (session_refusal s.side.server s.side.sessions Accept) c.accept.result (quiet_sessions s.side Accept) i.0
          c.accept.ensures).keeps,
      i.1,
    )
