use Rattle.std.proofs.Common.{rules}
use Rattle.std.proofs.lemmas.Fn.{filter_same}
use Rattle.route_session.specs.Steps.{is_not_of_peer}
use Rattle.route_session.proofs.session.drop_kept.Goals as goal

pub returns : goal.returns
returns c =
    filter_same _ (is_not_of_peer c.args.peer) _ (λ x b f' h. (search rules, search rules)) _ _
    c.retain.ensures.filtered
