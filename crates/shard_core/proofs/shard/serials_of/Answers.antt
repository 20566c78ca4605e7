use Rattle.std.proofs.Common.{List, ◌++◌, sym, ap, ◌∙◌, subst}
use Rattle.sub_table.specs.Subscriptions.{is_of, serials_of}
use Rattle.sub_table.specs.declared.Subscription.{Subscription}
use Rattle.shard_core.specs.Opened.{AreApart}
use Rattle.shard_core.proofs.Closings.Serials.{apart_among}
use Rattle.shard_core.proofs.shard.serials_of.Goals as goal

pub returns-clause-apart : goal.returns-clause-apart
returns-clause-apart g c =
    let e = c.in_ok-serials_of.ensures.ok
    ∙ ap (λ l. l ++ serials_of c.args.conn (g.T.SubTable.contents c.table.result.now)) c.new-serials.ensures.items
    ∙ ap (λ (l : List Subscription). serials_of c.args.conn l) c.table.ensures.subs in
    subst AreApart (sym e) (apart_among (is_of c.args.conn) c.args.openings.now.subs c.table.ensures.rising)
