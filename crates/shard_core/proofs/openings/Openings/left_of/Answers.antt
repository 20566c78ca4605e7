use Rattle.std.proofs.Common.{ℕ, List, rules, ◌≡◌, ◌++◌, ap, ◌∙◌}
use Rattle.std.specs.Prelude.{filter}
use Rattle.std.proofs.lemmas.Fn.{filter_same}
use Rattle.sub_table.specs.Subscriptions.{serials_of}
use Rattle.shard_core.specs.Closings.{left_of}
use Rattle.shard_core.specs.Opened.{Opened}
use Rattle.shard_core.proofs.Closings.Opened.{stays, left_is}
use Rattle.shard_core.proofs.openings.Openings.left_of.Goals as goal

pub returns : goal.returns
returns g c =
    let us = g.T.SubTable.contents c.self.inside.table in
    let conn = c.args.conn in
    let ended = c.args.ended.now in
    let serials : c.serials_of.new.serials.items ≡ serials_of conn us = ◌∙◌ {A = List ℕ} c.in_ok-serials_of.ensures.ok
    (ap (λ (l : List ℕ). l ++ serials_of conn us) c.new-left.ensures.items) in
    let kept : c.retain.new.self.items ≡ filter (stays ended) c.serials_of.new.serials.items =
    filter_same _ (stays ended) _ (λ x b f' h. (search rules, search rules)) _ _ c.retain.ensures.filtered in
    ◌∙◌ {A = List ℕ} kept
    (ap (filter (stays ended)) serials ∙ left_is conn ended us
    ∙ ap (λ (o : Opened). left_of conn ended o.subs) c.self.view_is)
