use Rattle.std.proofs.Common.{ap, ◌∙◌}
use Rattle.shard_core.specs.Closings.{serials_of}
use Rattle.shard_core.proofs.Closings.Closed.{max_serials}
use Rattle.shard_core.proofs.Closings.Opened.{same_serials}
use Rattle.shard_core.proofs.openings.Openings.set_max.Goals as goal

pub invariant_of-self : goal.invariant_of-self
invariant_of-self g c =
    let us = g.T.SubTable.contents c.self.inside.table in
    same_serials us _ _ _ _ _ (ap serials_of c.set_max.ensures ∙ max_serials c.args.serial c.args.max us)
    (c.forget.ensures (g.T.SubTable.contents c.set_max.new.self)) c.self.invariant
