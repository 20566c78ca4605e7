use Rattle.hub_core.specs.Events.{Collect, Collected}
use Rattle.hub_core.specs.Telling.{collect_frames}
use Rattle.node_threads.specs.AtHub.{hub_at}
use Rattle.node_parts.specs.Sides.{ByHub, OfHub}
use Rattle.node_threads.proofs.Hubs.HubCalls.{at_hub_does, quiet_collect}
use Rattle.node_threads.proofs.hub_state.HubState.collect.Goals as goal

pub invariant_of-self-2 : goal.invariant_of-self-2
invariant_of-self-2 g c =
    let s = c.self.inside in
    let told = c.in-Ok.told in
    let deltas = c.deltas.result.now in (
      at_hub_does g.N.NodeName.race.shards (hub_at s.side s.seat.part s.finished s.outlet) c.collect.new.self
          (ByHub (Collect c.shard-number.result deltas))
          (OfHub (Collected told.changes.items (collect_frames s.side.server s.side.hub deltas) told.cut.items))
          (quiet_collect s.side c.shard-number.result deltas) c.in-Ok.ensures.1 c.self.invariant.0,
      c.self.invariant.1,
    )
