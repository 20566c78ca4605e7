use Rattle.std.proofs.Common.{true≢false, sym, ap, ◌∙◌}
use Rattle.shard_core.specs.Held.{Held}
use Rattle.shard_core.specs.Shards.{new_shard}
use Rattle.node_threads.proofs.Shards.Working.{starts_at_work}
use Rattle.node_threads.proofs.shard_state.ShardState.new.Goals as goal

pub invariant_of-result : goal.invariant_of-result
invariant_of-result g c =
    let state = ap (λ (h : Held). h.state) c.in_ok-shard.ensures
    ∙ (λ k. new_shard (c.shard.ensures.same k) (c.requires.shards k)) in (
      starts_at_work g.N.NodeName.race.shards c.in_ok-shard.shard.state c.args.seat.part c.args.lane.popped
          c.args.lane.hand state c.requires.part c.requires.fresh.0,
      λ e. absurd (true≢false (sym e)),
      c.requires.race,
      c.requires.lane,
    )
