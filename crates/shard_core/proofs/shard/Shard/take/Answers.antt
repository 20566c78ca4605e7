use Rattle.std.proofs.Common.{ap, sym, ◌∙◌}
use Rattle.shard_core.specs.Boxes.{Clients}
use Rattle.shard_core.proofs.Clients.Told.{shown_both}
use Rattle.outbox.specs.Views.{without_first}
use Rattle.shard_core.specs.Shards.{clients_with_change}
use Rattle.shard_core.proofs.Steps.Kept.{numbered_changed, sound_changed, still_possible}
use Rattle.shard_core.proofs.shard.Shard.take.Goals as goal

pub invariant_of-self-2 : goal.invariant_of-self-2
invariant_of-self-2 g c =
    let change = without_first c.args.count in
    sound_changed _ _ _ _ c.drop_candidate.new.conns c.take.new.self (clients_with_change change c.args.conn)
    c.self.inside.openings c.self.invariant c.drop_candidate.ensures.chosen c.drop_candidate.ensures.conns
    (c.in_ok-entries.ensures.ok
    ∙ shown_both (clients_with_change change c.args.conn) _
    (ap (λ (l : Clients). l.next) c.drop_candidate.ensures.conns
    ∙ sym (ap (λ (l : Clients). l.shown) c.drop_candidate.ensures.conns)))
    (numbered_changed _ _ change c.args.conn _ c.self.invariant.numbered) (still_possible _ _ _ c.self.invariant)
