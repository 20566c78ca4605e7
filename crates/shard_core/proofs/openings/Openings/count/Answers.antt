use Rattle.std.proofs.Common.{[], ◌∷◌, refl, ap, sym, subst, ◌∙◌}
use Rattle.shard_core.specs.Closings.{serials_of}
use Rattle.shard_core.specs.Opened.{Opened, CanCount, with_counts}
use Rattle.shard_core.proofs.Closings.Closed.{counted_serials}
use Rattle.shard_core.specs.Notes.{HoldNotes}
use Rattle.shard_core.proofs.Turns.Notes.{notes_counted}
use Rattle.shard_core.proofs.Closings.Opened.{opened_same, same_serials, counts_one, count_fits}
use Rattle.shard_core.proofs.openings.Openings.count.Goals as goal

pub count-requires : goal.count-requires
count-requires g c =
    count_fits c.args.serial (g.T.SubTable.contents c.self.inside.table)
    (subst (λ (o : Opened). CanCount c.args.serial o.subs) (sym c.self.view_is) c.requires)

pub invariant_of-self : goal.invariant_of-self
invariant_of-self g c =
    let us = g.T.SubTable.contents c.self.inside.table in
    let set = c.count.ensures ∙ counts_one c.args.serial us c.self.invariant.rising in
    same_serials us _ _ _ _ _ (ap serials_of set ∙ counted_serials (c.args.serial ∷ []) us)
    (subst (λ l. HoldNotes l c.self.inside.notes) (sym set)
    (notes_counted (c.args.serial ∷ []) us c.self.inside.notes c.self.invariant.noted))
    c.self.invariant

pub returns : goal.returns
returns g c =
    let us = g.T.SubTable.contents c.self.inside.table in
    let ds = c.self.inside.deltas.items in
    let set = c.count.ensures ∙ counts_one c.args.serial us c.self.invariant.rising in
    opened_same _ _ ds ds set refl ∙ ap (with_counts (c.args.serial ∷ [])) c.self.view_is
