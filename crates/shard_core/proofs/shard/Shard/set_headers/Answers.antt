use Rattle.shard_core.specs.Shards.{clients_with_headers}
use Rattle.shard_core.proofs.Steps.Kept.{numbered_chosen, sound_changed, still_possible}
use Rattle.shard_core.proofs.shard.Shard.set_headers.Goals as goal

pub invariant_of-self-2 : goal.invariant_of-self-2
invariant_of-self-2 g c =
    sound_changed _ _ _ _ c.drop_candidate.new.conns c.set_headers.new.self (clients_with_headers c.args.on c.args.conn)
    c.self.inside.openings c.self.invariant c.drop_candidate.ensures.chosen c.drop_candidate.ensures.conns
    c.set_headers.ensures (numbered_chosen _ _ c.args.on c.args.conn _ c.self.invariant.numbered)
    (still_possible _ _ _ c.self.invariant)
