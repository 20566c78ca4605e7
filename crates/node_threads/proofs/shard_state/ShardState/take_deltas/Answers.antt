use Rattle.std.proofs.Common.{refl}
use Rattle.node_threads.specs.AtWork.{seen_as}
use Rattle.node_threads.proofs.Shards.Clients.{collected_at_work}
use Rattle.node_threads.proofs.shard_state.ShardState.take_deltas.Goals as goal

pub invariant_of-self : goal.invariant_of-self
invariant_of-self g c =
    let s = c.self.inside in
    let i = c.self.invariant in (
      collected_at_work g.N.NodeName.race.shards s.next_index
          (seen_as s.shard.state s.seat.part s.lane.popped s.lane.hand s.waits) s.shard c.take_deltas.new.self _ refl
          i.0 c.take_deltas.ensures,
      i.1,
      i.2,
      i.3,
    )
