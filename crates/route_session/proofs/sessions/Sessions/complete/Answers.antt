use Rattle.std.proofs.Common.{◌≡◌, true, sym, ap, ◌∙◌, subst}
use Rattle.std.specs.Prelude.{filter}
use Rattle.subj.specs.Servers.{is_peer}
use Rattle.route_session.specs.State.{State}
use Rattle.route_session.specs.Steps.{is_not_of_peer}
use Rattle.route_session.specs.Calls.{Served, AreSessions}
use Rattle.route_session.proofs.Sound.{some_end, one_kept}
use Rattle.route_session.proofs.sessions.Sessions.complete.Goals as goal

pub invariant_of-self : goal.invariant_of-self
invariant_of-self c =
    let server = c.self.inside.server in
    let offer = c.args.offer in
    let s : State = record {
      numbers = c.self.inside.numbers;
      dials = c.self.inside.dials;
      standing = c.self.inside.standing.items;
    } in
    let left : State = record s { standing = filter (is_not_of_peer offer.peer) s.standing } in
    let peer : is_peer server offer.peer ≡ true =
    ap (λ (t : Served). is_peer t.server offer.peer) c.self.view_is ∙ c.requires in
    subst (λ xs. AreSessions server (record s { standing = xs })) (sym c.complete.ensures)
    (one_kept server left c.get.result offer peer (some_end server s (is_not_of_peer offer.peer) c.self.invariant))
