use Rattle.std.proofs.Common.{refl}
use Rattle.shard_core.specs.ShardEvents.{Shut, WasShut}
use Rattle.node_threads.specs.AtWork.{seen_as}
use Rattle.node_threads.proofs.Shards.Clients.{client_call}
use Rattle.node_threads.proofs.shard_state.ShardState.shut.Goals as goal

pub invariant_of-self : goal.invariant_of-self
invariant_of-self g c =
    let s = c.self.inside in
    let i = c.self.invariant in (
      (client_call g.N.NodeName.race.shards s.next_index
          (seen_as s.shard.state s.seat.part s.lane.popped s.lane.hand s.waits) s.shard c.shut.new.self
          (Shut c.args.conn c.args.text) (λ ended. WasShut ended.items) c.shut.result refl refl i.0
          c.shut.ensures).works,
      i.1,
      i.2,
      i.3,
    )
