use Rattle.std.proofs.Common.{◌≡◌, true, false, sym, ◌∙◌, ap, subst}
use Rattle.std.specs.Prelude.{is_some}
use Rattle.cluster_world.specs.InCode.{fault_in}
use Rattle.mesh_script.specs.Asks.{info_asks, connect_asks, where_done, next_frame}
use Rattle.mesh_script.specs.Playing.{Moves}
use Rattle.mesh_script.proofs.Moving.{makes_failed, makes_on, breaks_first, breaks_unmoved}
use Rattle.mesh_script.proofs.Refusing.{where_refused, where_not_refused}
use Rattle.mesh_script.proofs.player.Player.inform.Goals as goal

pub returns-in_err-next-clause-makes : goal.returns-in_err-next-clause-makes
returns-in_err-next-clause-makes g c =
    makes_failed _ c.args.self.now _ _ _ _ c.from_residual.ensures.0 (breaks_unmoved c.args.self.now _ _)

pub returns-in_err-outcome-clause-makes : goal.returns-in_err-outcome-clause-makes
returns-in_err-outcome-clause-makes g c =
    makes_failed _ c.args.self.now _ _ _
    (info_asks c.args.a.node c.args.b.node c.args.a.session c.args.b.session c.args.frame)
    c.from_residual-in_err-outcome.ensures.0 (breaks_first c.args.self.now _ _ _ c.in_err-outcome.ensures.asks)

pub returns-then-is_some-clause-makes : goal.returns-then-is_some-clause-makes
returns-then-is_some-clause-makes g c =
    let o = c.in_ok-outcome.outcome in
    let e : is_some (fault_in o) ≡ true = sym (c.is_some.ensures ∙ ap is_some c.fault.ensures) ∙ c.if-is_some.true in
    subst (λ rest.
    Moves c.args.self.now (g.S.Sink.written c.args.sink.now)
    (info_asks c.args.a.node c.args.b.node c.args.a.session c.args.b.session c.args.frame) rest c.ask_for.new.self
    (g.S.Sink.written c.ask_for.new.sink))
    (where_refused o (connect_asks c.args.b.node c.args.b.session (next_frame c.args.self.now.world)) e)
    (c.in_ok-outcome.ensures.asks
    (λ w outcome. where_done outcome (connect_asks c.args.b.node c.args.b.session (next_frame w))))

pub returns-clause-makes : goal.returns-clause-makes
returns-clause-makes g c =
    let o = c.in_ok-outcome.outcome in
    let asks = info_asks c.args.a.node c.args.b.node c.args.a.session c.args.b.session c.args.frame in
    let was = g.S.Sink.written c.args.sink.now in
    let is = g.S.Sink.written c.ask_for.new.sink in
    let e : is_some (fault_in o) ≡ false = sym (c.is_some.ensures ∙ ap is_some c.fault.ensures) ∙ c.if-is_some.false in
    makes_on _ c.args.self.now c.ask_for.new.self _ was is _ asks
    (connect_asks c.args.b.node c.args.b.session c.in_ok-next.next)
    (subst (λ rest. Moves c.args.self.now was asks rest c.ask_for.new.self is)
    (where_not_refused o (connect_asks c.args.b.node c.args.b.session (next_frame c.args.self.now.world)) e
    ∙ ap (λ n. connect_asks c.args.b.node c.args.b.session n) (sym c.in_ok-next.ensures))
    (c.in_ok-outcome.ensures.asks
    (λ w outcome. where_done outcome (connect_asks c.args.b.node c.args.b.session (next_frame w)))))
    c.once.ensures.makes
