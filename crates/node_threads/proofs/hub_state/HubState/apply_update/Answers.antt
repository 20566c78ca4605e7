use Rattle.hub_core.specs.Events.{Receive, Heard}
use Rattle.hub_core.specs.Receiving.{receive_refusal}
use Rattle.node_threads.specs.AtHub.{hub_at}
use Rattle.node_parts.specs.Sides.{ByHub, OfHub}
use Rattle.node_threads.proofs.Hubs.HubCalls.{does_call}
use Rattle.node_threads.proofs.Hubs.Receiving.{quiet_news}
use Rattle.node_threads.proofs.hub_state.HubState.apply_update.Goals as goal

pub invariant_of-self : goal.invariant_of-self
invariant_of-self g c =
    let s = c.self.inside in
    let i = c.self.invariant in
    let frame = c.args.frame.now in (
      (does_call g.N.NodeName.race.shards (hub_at s.side s.seat.part s.finished s.outlet) c.apply_update.new.self
          (ByHub (Receive frame s.finished)) (λ n. OfHub (Heard frame.number))
          (receive_refusal s.side.server s.side.hub s.finished frame) c.apply_update.result
          (quiet_news s.side frame s.finished c.requires) i.0 c.apply_update.ensures).keeps,
      i.1,
    )
