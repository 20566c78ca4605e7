use Rattle.node_threads.specs.AtHub.{hub_at}
use Rattle.hub_core.specs.Events.{Drain, Drained}
use Rattle.hub_core.specs.Steps.{hub_refusal}
use Rattle.hub_core.specs.Telling.{drain_frames}
use Rattle.node_parts.specs.Sides.{ByHub, OfHub}
use Rattle.node_threads.proofs.Hubs.HubCalls.{does_call, quiet_drain}
use Rattle.node_threads.proofs.hub_state.HubState.drain.Goals as goal

pub invariant_of-self : goal.invariant_of-self
invariant_of-self g c =
    let s = c.self.inside in
    let i = c.self.invariant in (
      (does_call g.N.NodeName.race.shards (hub_at s.side s.seat.part s.finished s.outlet) c.drain.new.self
          (ByHub Drain) (λ n. OfHub (Drained (drain_frames s.side.server s.side.hub) n.items))
          (hub_refusal s.side.server s.side.hub Drain) c.drain.result (quiet_drain s.side) i.0 c.drain.ensures).keeps,
      i.1,
    )
