use Rattle.std.proofs.Common.{refl}
use Rattle.shard_core.specs.ShardEvents.{Drain, Drains}
use Rattle.node_threads.specs.AtWork.{seen_as}
use Rattle.node_threads.proofs.Shards.Clients.{client_decided}
use Rattle.node_threads.proofs.shard_state.ShardState.drain.Goals as goal

pub invariant_of-self : goal.invariant_of-self
invariant_of-self g c =
    let s = c.self.inside in
    let i = c.self.invariant in (
      (client_decided g.N.NodeName.race.shards s.next_index
          (seen_as s.shard.state s.seat.part s.lane.popped s.lane.hand s.waits) s.shard c.drain.new.self Drain
          (λ done. Drains) c.drain.result refl refl i.0 c.drain.ensures),
      i.1,
      i.2,
      i.3,
    )
