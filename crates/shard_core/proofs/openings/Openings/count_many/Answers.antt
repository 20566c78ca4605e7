use Rattle.std.proofs.Common.{map, refl, ap, sym, subst, ◌∙◌}
use Rattle.shard_core.specs.Closings.{serials_of}
use Rattle.shard_core.specs.Notes.{HoldNotes}
use Rattle.shard_core.specs.Opened.{Opened}
use Rattle.shard_core.specs.RunReceivers.{sub_with_more}
use Rattle.shard_core.specs.RunSteps.{CanCountMore}
use Rattle.shard_core.proofs.Closings.Opened.{opened_same, same_serials, more_one, more_fits}
use Rattle.shard_core.proofs.RunOpened.{more_serials, notes_more}
use Rattle.shard_core.proofs.openings.Openings.count_many.Goals as goal

pub count_many-requires : goal.count_many-requires
count_many-requires g c =
    more_fits c.args.serial c.args.count (g.T.SubTable.contents c.self.inside.table)
    (subst (λ (o : Opened). CanCountMore c.args.count c.args.serial o.subs) (sym c.self.view_is) c.requires)

pub invariant_of-self : goal.invariant_of-self
invariant_of-self g c =
    let us = g.T.SubTable.contents c.self.inside.table in
    let set = c.count_many.ensures ∙ more_one c.args.serial c.args.count us c.self.invariant.rising in
    same_serials us _ _ _ _ _ (ap serials_of set ∙ more_serials c.args.serial c.args.count us)
    (subst (λ l. HoldNotes l c.self.inside.notes) (sym set)
    (notes_more c.args.serial c.args.count us c.self.inside.notes c.self.invariant.noted)) c.self.invariant

pub returns : goal.returns
returns g c =
    let us = g.T.SubTable.contents c.self.inside.table in
    let ds = c.self.inside.deltas.items in
    let set = c.count_many.ensures ∙ more_one c.args.serial c.args.count us c.self.invariant.rising in
    opened_same _ _ ds ds set refl
    ∙ ap (λ (o : Opened). record o { subs = map (sub_with_more c.args.serial c.args.count) o.subs }) c.self.view_is
