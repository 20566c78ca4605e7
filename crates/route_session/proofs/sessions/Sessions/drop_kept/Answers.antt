use Rattle.std.proofs.Common.{sym, subst}
use Rattle.route_session.specs.State.{State}
use Rattle.route_session.specs.Steps.{is_not_of_peer}
use Rattle.route_session.specs.Calls.{AreSessions}
use Rattle.route_session.proofs.Sound.{some_end}
use Rattle.route_session.proofs.sessions.Sessions.drop_kept.Goals as goal

pub invariant_of-self : goal.invariant_of-self
invariant_of-self c =
    let s : State = record {
      numbers = c.self.inside.numbers;
      dials = c.self.inside.dials;
      standing = c.self.inside.standing.items;
    } in
    subst (λ xs. AreSessions c.self.inside.server (record s { standing = xs })) (sym c.drop_kept.ensures)
    (some_end c.self.inside.server s (is_not_of_peer c.args.place) c.self.invariant)
