use Rattle.std.proofs.Common.{refl}
use Rattle.node_threads.specs.AtWork.{seen_as}
use Rattle.node_threads.proofs.Shards.Clients.{took_bytes}
use Rattle.node_threads.proofs.shard_state.ShardState.take_bytes.Goals as goal

pub invariant_of-self : goal.invariant_of-self
invariant_of-self g c =
    let s = c.self.inside in
    let i = c.self.invariant in (
      (took_bytes g.N.NodeName.race.shards s.next_index
          (seen_as s.shard.state s.seat.part s.lane.popped s.lane.hand s.waits) s.shard c.take_bytes.new.self
          c.args.conn c.args.count c.args.out.now.items c.take_bytes.new.out.items c.take_bytes.result refl i.0
          c.take_bytes.ensures).works,
      i.1,
      i.2,
      i.3,
    )
