use Rattle.std.proofs.Common.{[], ◌∷◌}
use Rattle.shard_core.proofs.Steps.Kept.{sound_max, sound_left}
use Rattle.shard_core.proofs.shard.Shard.unsubscribe.Goals as goal

pub invariant_of-self-then-not-called : goal.invariant_of-self-then-not-called
invariant_of-self-then-not-called g c =
    sound_max _ _ _ _ c.drop_candidate.new.conns c.set_max.new.self c.in-Some.called.serial c.args.max c.self.invariant
    c.drop_candidate.ensures.chosen c.drop_candidate.ensures.conns c.set_max.ensures

pub invariant_of-self-2 : goal.invariant_of-self-2
invariant_of-self-2 g c =
    sound_left _ _ _ _ c.drop_candidate.new.conns c.close.new.self (c.in-Some.called.serial ∷ []) c.self.invariant
    c.drop_candidate.ensures.chosen c.drop_candidate.ensures.conns c.close.ensures
