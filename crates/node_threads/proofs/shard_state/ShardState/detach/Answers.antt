use Rattle.std.proofs.Common.{refl}
use Rattle.shard_core.specs.ShardEvents.{Detach, Detached}
use Rattle.node_threads.specs.AtWork.{seen_as}
use Rattle.node_threads.proofs.Shards.Clients.{client_call}
use Rattle.node_threads.proofs.shard_state.ShardState.detach.Goals as goal

pub invariant_of-self : goal.invariant_of-self
invariant_of-self g c =
    let s = c.self.inside in
    let i = c.self.invariant in (
      (client_call g.N.NodeName.race.shards s.next_index
          (seen_as s.shard.state s.seat.part s.lane.popped s.lane.hand s.waits) s.shard c.detach.new.self
          (Detach c.args.conn) (λ ended. Detached ended.items) c.detach.result refl refl i.0 c.detach.ensures).works,
      i.1,
      i.2,
      i.3,
    )
