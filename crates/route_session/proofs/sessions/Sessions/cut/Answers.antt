use Rattle.std.proofs.Common.{◌≡◌, true, Some, sym, subst, rules}
use Rattle.std.specs.Prelude.{IfSome}
use Rattle.std.specs.Option.{option_map}
use Rattle.subj.specs.Servers.{is_peer}
use Rattle.route_session.specs.Best.{Offer}
use Rattle.route_session.specs.State.{State, session_at}
use Rattle.route_session.specs.Steps.{is_another}
use Rattle.route_session.specs.Calls.{Served, AreSessions}
use Rattle.route_session.proofs.Sound.{some_end}
use Rattle.route_session.proofs.Judged.{peer_found}
use Rattle.route_session.proofs.sessions.Sessions.cut.Goals as goal

pub invariant_of-self : goal.invariant_of-self
invariant_of-self c =
    let s : State = record {
      numbers = c.self.inside.numbers;
      dials = c.self.inside.dials;
      standing = c.self.inside.standing.items;
    } in
    subst (λ xs. AreSessions c.self.inside.server (record s { standing = xs })) (sym c.end.ensures)
    (some_end c.self.inside.server s (is_another c.get-2.result) c.self.invariant)

pub returns-clause-peer : goal.returns-clause-peer
returns-clause-peer c =
    let s : State = record {
      numbers = c.self.inside.numbers;
      dials = c.self.inside.dials;
      standing = c.self.inside.standing.items;
    } in
    let at : session_at c.get.result s.standing ≡ Some c.in-Some.ended = search rules in
    let peer = peer_found c.self.inside.server s c.get.result c.in-Some.ended c.self.invariant at in
    subst (λ o. IfSome o (λ q. is_peer c.args.self.now.server q ≡ true)) (sym c.peer.ensures)
    (subst (λ (t : Served).
    IfSome (option_map (λ (offer : Offer). offer.peer) c.in-Some.ended.kept) (λ q. is_peer t.server q ≡ true))
    c.self.view_is peer)
