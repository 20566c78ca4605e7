use Rattle.std.proofs.Common.{refl}
use Rattle.std.specs.Prelude.{option_to_list}
use Rattle.shard_core.specs.ShardEvents.{Unsubscribe, Unsubscribed}
use Rattle.node_threads.specs.AtWork.{seen_as}
use Rattle.node_threads.proofs.Shards.Clients.{client_decided}
use Rattle.node_threads.proofs.shard_state.ShardState.unsubscribe.Goals as goal

pub invariant_of-self : goal.invariant_of-self
invariant_of-self g c =
    let s = c.self.inside in
    let i = c.self.invariant in (
      (client_decided g.N.NodeName.race.shards s.next_index
          (seen_as s.shard.state s.seat.part s.lane.popped s.lane.hand s.waits) s.shard c.unsubscribe.new.self
          (Unsubscribe c.args.conn c.args.sid.now c.args.max) (λ ended. Unsubscribed (option_to_list ended))
          c.unsubscribe.result refl refl i.0 c.unsubscribe.ensures),
      i.1,
      i.2,
      i.3,
    )
