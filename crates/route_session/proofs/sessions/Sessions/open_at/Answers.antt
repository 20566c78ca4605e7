use Rattle.std.proofs.Common.{◌≡◌, Some, rules}
use Rattle.route_session.specs.State.{State, session_at}
use Rattle.route_session.proofs.Judged.{dial_found}
use Rattle.route_session.proofs.sessions.Sessions.open_at.Goals as goal

pub returns-clause-dial : goal.returns-clause-dial
returns-clause-dial c =
    let s : State = record {
      numbers = c.self.inside.numbers;
      dials = c.self.inside.dials;
      standing = c.self.inside.standing.items;
    } in
    let at : session_at c.get.result s.standing ≡ Some c.in_ok-session.session = search rules in
    dial_found c.self.inside.server s c.get.result c.in_ok-session.session c.self.invariant at
