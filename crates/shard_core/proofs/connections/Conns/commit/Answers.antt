use Rattle.std.proofs.Common.{[], subst}
use Rattle.shard_core.specs.Boxes.{Clients}
use Rattle.shard_core.specs.Dirty.{AreTold, AreToldBut}
use Rattle.shard_core.proofs.Clients.Told.{all_told}
use Rattle.shard_core.proofs.connections.Conns.commit.Goals as goal

pub returns-clause-told : goal.returns-clause-told
returns-clause-told c =
    let conns = c.self.inside.conns.items in
    let before = c.args.dirty_conns.now in
    let after = c.note_all.new.dirty_conns in
    let noted = subst (λ places. AreToldBut [] places conns after) c.deref.ensures.value c.note_all.ensures.told in
    subst (λ (l : Clients). AreTold l.shown l.next before after) c.self.view_is
    (all_told c.self.inside.places.items conns before after c.self.invariant noted c.note_all.ensures.kept)
