use Rattle.node_threads.specs.AtHub.{hub_at}
use Rattle.hub_core.specs.Events.{TakeFrom, Taken}
use Rattle.hub_core.specs.Steps.{hub_refusal}
use Rattle.node_parts.specs.Sides.{ByHub, OfHub}
use Rattle.node_threads.proofs.Hubs.HubCalls.{does_call, quiet_take}
use Rattle.node_threads.proofs.hub_state.HubState.take_frames.Goals as goal

pub invariant_of-self : goal.invariant_of-self
invariant_of-self g c =
    let s = c.self.inside in
    let i = c.self.invariant in (
      (does_call g.N.NodeName.race.shards (hub_at s.side s.seat.part s.finished s.outlet) c.take_frames.new.self
          (ByHub (TakeFrom c.args.peer c.args.count)) (λ n. OfHub (Taken n.items))
          (hub_refusal s.side.server s.side.hub (TakeFrom c.args.peer c.args.count)) c.take_frames.result
          (quiet_take s.side c.args.peer c.args.count) i.0 c.take_frames.ensures).keeps,
      i.1,
    )
