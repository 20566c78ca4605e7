use Rattle.outbox.specs.Views.{with_last}
use Rattle.shard_core.specs.Shards.{clients_with_change}
use Rattle.shard_core.proofs.Steps.Kept.{numbered_changed, sound_closed}
use Rattle.shard_core.proofs.shard.Shard.shut.Goals as goal

pub invariant_of-self-2 : goal.invariant_of-self-2
invariant_of-self-2 g c =
    let change = with_last c.line.result.now in
    sound_closed _ _ _ _ c.drop_candidate.new.conns c.shut_with.new.conns (clients_with_change change c.args.conn)
    c.shut_with.new.openings _ c.self.invariant c.drop_candidate.ensures.chosen c.drop_candidate.ensures.conns
    c.in_ok-ended.ensures.conns (numbered_changed _ _ change c.args.conn _ c.self.invariant.numbered)
    c.in_ok-ended.ensures.openings
