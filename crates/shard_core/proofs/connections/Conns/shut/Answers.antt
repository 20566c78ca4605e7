use Rattle.std.proofs.Common.{sym, subst}
use Rattle.shard_core.specs.Boxes.{Clients}
use Rattle.shard_core.specs.Dirty.{AreTold}
use Rattle.shard_core.proofs.connections.Conns.shut.Goals as goal

pub returns-clause-told : goal.returns-clause-told
returns-clause-told c =
    subst
    (λ (l : Clients). AreTold c.args.self.now.shown l.shown c.args.dirty_conns.now c.shut_shown-put.new.dirty_conns)
    (sym c.rollback.ensures) c.shut_shown-put.ensures.told
