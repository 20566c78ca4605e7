use Rattle.std.proofs.Common.{rules, tests, ◌∙◌}
use Rattle.std.proofs.lemmas.Iterator.{YieldsList-from_slice}
use Rattle.std.proofs.lemmas.Iterator.Search.{find_from_yields_List}
use Rattle.route_session.specs.State.{Session, is_of_peer}
use Rattle.route_session.proofs.session.kept_for.Goals as goal

pub returns : goal.returns
returns c =
    c.copied.ensures
    ∙ find_from_yields_List (λ (session : Session). is_of_peer c.args.peer session.kept) _ _ c.find.result
    c.find.ensures.ran (YieldsList-from_slice c.args.standing.now cc) (λ x b q k. search (rules, tests))
