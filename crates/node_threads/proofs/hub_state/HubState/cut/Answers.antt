use Rattle.node_threads.specs.AtHub.{hub_at}
use Rattle.route_session.specs.Events.{Cut, WasCut}
use Rattle.route_session.specs.Steps.{session_refusal}
use Rattle.node_parts.specs.Sides.{BySessions, OfSessions}
use Rattle.node_threads.proofs.Hubs.HubCalls.{does_decided, quiet_sessions}
use Rattle.node_threads.proofs.hub_state.HubState.cut.Goals as goal

pub invariant_of-self : goal.invariant_of-self
invariant_of-self g c =
    let s = c.self.inside in
    let i = c.self.invariant in (
      (does_decided g.N.NodeName.race.shards (hub_at s.side s.seat.part s.finished s.outlet) c.cut.new.self
          (BySessions (Cut c.args.session)) (λ n. OfSessions (WasCut n))
          (session_refusal s.side.server s.side.sessions (Cut c.args.session)) c.cut.result
          (quiet_sessions s.side (Cut c.args.session)) i.0 c.cut.ensures).keeps,
      i.1,
    )
