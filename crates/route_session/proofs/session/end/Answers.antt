use Rattle.std.proofs.Common.{rules}
use Rattle.std.proofs.lemmas.Fn.{filter_same}
use Rattle.route_session.specs.Steps.{is_another}
use Rattle.route_session.proofs.session.end.Goals as goal

pub returns : goal.returns
returns c =
    filter_same _ (is_another c.args.number) _ (λ x b f' h. (search rules, search rules)) _ _ c.retain.ensures.filtered
