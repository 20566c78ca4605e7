use Rattle.std.proofs.Common.{rules, tests, nat_eq, ◌∙◌}
use Rattle.std.proofs.lemmas.Iterator.{YieldsList-from_slice}
use Rattle.std.proofs.lemmas.Iterator.Search.{find_from_yields_List}
use Rattle.route_session.specs.State.{Session}
use Rattle.route_session.proofs.session.session_at.Goals as goal

pub returns : goal.returns
returns c =
    c.copied.ensures
    ∙ find_from_yields_List (λ (session : Session). nat_eq session.number c.args.number) _ _ c.find.result
    c.find.ensures.ran (YieldsList-from_slice c.args.standing.now cc) (λ x b q k. search (rules, tests))
