use Rattle.std.proofs.Common.{ℕ, Option, ap, sym, ◌∙◌, subst}
use Rattle.mesh_script.specs.Asks.{dial_asks, accept_asks, where_some, session_in}
use Rattle.mesh_script.specs.Playing.{Moves}
use Rattle.mesh_script.proofs.Moving.{makes_failed, makes_on, breaks_first}
use Rattle.mesh_script.proofs.player.Player.join.Goals as goal

pub returns-in_err-outcome-clause-makes : goal.returns-in_err-outcome-clause-makes
returns-in_err-outcome-clause-makes g c =
    makes_failed _ c.args.self.now _ _ _ (dial_asks c.args.a c.args.b) c.from_residual.ensures.0
    (breaks_first c.args.self.now _ _ _ c.in_err-outcome.ensures.asks)

pub returns-in-None-clause-makes : goal.returns-in-None-clause-makes
returns-in-None-clause-makes g c =
    subst (λ s.
    Moves c.args.self.now (g.S.Sink.written c.args.sink.now) (dial_asks c.args.a c.args.b)
    (where_some s (λ at_a. accept_asks c.args.a c.args.b at_a)) c.ask_for.new.self
    (g.S.Sink.written c.ask_for.new.sink))
    (sym c.session_in.ensures ∙ c.in-None.is)
    (c.in_ok-outcome.ensures.asks
    (λ w outcome. where_some (session_in outcome) (λ at_a. accept_asks c.args.a c.args.b at_a)))

pub returns-clause-makes : goal.returns-clause-makes
returns-clause-makes g c =
    let asks = dial_asks c.args.a c.args.b in
    let was = g.S.Sink.written c.args.sink.now in
    let is = g.S.Sink.written c.ask_for.new.sink in
    let more = λ (s : Option ℕ). where_some s (λ at_a. accept_asks c.args.a c.args.b at_a) in
    makes_on _ c.args.self.now c.ask_for.new.self _ was is _ asks (accept_asks c.args.a c.args.b c.in-Some.session)
    (subst (λ rest. Moves c.args.self.now was asks rest c.ask_for.new.self is)
    (ap more (sym c.session_in.ensures ∙ c.in-Some.is))
    (c.in_ok-outcome.ensures.asks
    (λ w outcome. where_some (session_in outcome) (λ at_a. accept_asks c.args.a c.args.b at_a))))
    c.accept.ensures.makes
