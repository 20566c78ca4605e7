use Rattle.shard_core.specs.Shards.{without_client}
use Rattle.shard_core.proofs.Steps.Kept.{numbered_detached, sound_closed}
use Rattle.shard_core.proofs.shard.Shard.detach.Goals as goal

pub invariant_of-self-2 : goal.invariant_of-self-2
invariant_of-self-2 g c =
    sound_closed _ _ _ _ c.drop_candidate.new.conns c.detach.new.self (without_client c.args.conn) c.close_all.new.self
    _ c.self.invariant c.drop_candidate.ensures.chosen c.drop_candidate.ensures.conns c.detach.ensures
    (numbered_detached _ _ c.args.conn _ c.self.invariant.numbered) c.close_all.ensures
