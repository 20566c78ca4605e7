use Rattle.std.proofs.Common.{subst}
use Rattle.shard_core.specs.Boxes.{Clients}
use Rattle.shard_core.specs.Opened.{AreApart}
use Rattle.shard_core.specs.Runs.{numbers_of}
use Rattle.shard_core.proofs.RunClients.{numbers_apart}
use Rattle.shard_core.proofs.connections.Conns.numbers_are_apart.Goals as goal

pub returns : goal.returns
returns c =
    subst (λ (l : Clients). AreApart (numbers_of l.shown)) c.self.view_is
    (numbers_apart c.self.inside.conns.items c.self.invariant.rising)
