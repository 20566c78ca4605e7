use Rattle.shard_core.proofs.Steps.Kept.{sound_ended}
use Rattle.shard_core.proofs.shard.Shard.end.Goals as goal

pub invariant_of-self-2 : goal.invariant_of-self-2
invariant_of-self-2 g c =
    sound_ended _ _ _ _ c.drop_candidate.new.conns c.in-Some.job c.self.invariant c.drop_candidate.ensures.chosen
    c.drop_candidate.ensures.conns c.in-Some.is
