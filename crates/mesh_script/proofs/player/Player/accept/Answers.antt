use Rattle.std.proofs.Common.{ℕ, Option, ap, sym, ◌∙◌, subst}
use Rattle.mesh_script.specs.Asks.{accept_asks, info_asks, where_some, session_in, next_frame}
use Rattle.mesh_script.specs.Playing.{Moves}
use Rattle.mesh_script.proofs.Moving.{makes_failed, makes_on, breaks_first, breaks_unmoved}
use Rattle.mesh_script.proofs.player.Player.accept.Goals as goal

pub returns-in_err-info-clause-makes : goal.returns-in_err-info-clause-makes
returns-in_err-info-clause-makes g c =
    makes_failed _ c.args.self.now _ _ _ _ c.from_residual.ensures.0 (breaks_unmoved c.args.self.now _ _)

pub returns-in_err-outcome-clause-makes : goal.returns-in_err-outcome-clause-makes
returns-in_err-outcome-clause-makes g c =
    makes_failed _ c.args.self.now _ _ _ (accept_asks c.args.a.node c.args.b c.args.a.session)
    c.from_residual-in_err-outcome.ensures.0 (breaks_first c.args.self.now _ _ _ c.in_err-outcome.ensures.asks)

pub returns-in-None-clause-makes : goal.returns-in-None-clause-makes
returns-in-None-clause-makes g c =
    subst (λ s.
    Moves c.args.self.now (g.S.Sink.written c.args.sink.now) (accept_asks c.args.a.node c.args.b c.args.a.session)
    (where_some s (λ at_b. info_asks c.args.a.node c.args.b c.args.a.session at_b (next_frame c.args.self.now.world)))
    c.ask_for.new.self (g.S.Sink.written c.ask_for.new.sink))
    (sym c.session_in.ensures ∙ c.in-None.is)
    (c.in_ok-outcome.ensures.asks (λ w outcome.
    where_some (session_in outcome) (λ at_b. info_asks c.args.a.node c.args.b c.args.a.session at_b (next_frame w))))

pub returns-clause-makes : goal.returns-clause-makes
returns-clause-makes g c =
    let asks = accept_asks c.args.a.node c.args.b c.args.a.session in
    let was = g.S.Sink.written c.args.sink.now in
    let is = g.S.Sink.written c.ask_for.new.sink in
    let more = λ (s : Option ℕ).
    where_some s (λ at_b. info_asks c.args.a.node c.args.b c.args.a.session at_b (next_frame c.args.self.now.world)) in
    makes_on _ c.args.self.now c.ask_for.new.self _ was is _ asks
    (info_asks c.args.a.node c.args.b c.args.a.session c.in-Some.session c.in_ok-info.info)
    (subst (λ rest. Moves c.args.self.now was asks rest c.ask_for.new.self is)
    (ap more (sym c.session_in.ensures ∙ c.in-Some.is)
    ∙ ap (λ n. info_asks c.args.a.node c.args.b c.args.a.session c.in-Some.session n) (sym c.in_ok-info.ensures))
    (c.in_ok-outcome.ensures.asks (λ w outcome.
    where_some (session_in outcome) (λ at_b. info_asks c.args.a.node c.args.b c.args.a.session at_b (next_frame w)))))
    c.inform.ensures.makes
