use Rattle.std.proofs.Common.{rules}
use Rattle.std.proofs.lemmas.Fn.{filter_same}
use Rattle.sub_table.specs.Subscriptions.{is_of_another}
use Rattle.sub_table.proofs.ListTableSubTable.close.Goals as goal

pub returns : goal.returns
returns c =
    filter_same _ (is_of_another c.args.conn) _ (λ x b f' h. (search rules, search rules)) _ _ c.retain.ensures.filtered
