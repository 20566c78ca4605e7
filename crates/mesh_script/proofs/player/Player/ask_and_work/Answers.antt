use Rattle.std.proofs.Common.{subst, map}
use Rattle.cluster_world.specs.InCode.{event_of}
use Rattle.mesh_script.specs.Asks.{Ask, work_asks}
use Rattle.mesh_script.specs.Playing.{Moves}
use Rattle.mesh_script.proofs.Moving.{makes_failed, makes_on, breaks_first}
use Rattle.mesh_script.proofs.player.Player.ask_and_work.Goals as goal

pub returns-in_err-ask-clause-makes : goal.returns-in_err-ask-clause-makes
returns-in_err-ask-clause-makes g c = λ more same.
    makes_failed _ c.args.self.now _ _ _ _ c.from_residual.ensures.0
    (breaks_first c.args.self.now _ _ _ c.in_err-ask.ensures.asks)

pub returns-clause-makes : goal.returns-clause-makes
returns-clause-makes g c = λ more same.
    let was = g.S.Sink.written c.args.sink.now in
    let is = g.S.Sink.written c.ask.new.sink in
    let e = event_of c.args.event.now in
    makes_on c.work.result c.args.self.now c.ask.new.self c.work.new.self was is _ (Ask e more)
    (work_asks (map event_of c.args.events.now) 0)
    (subst (λ rest. Moves c.args.self.now was (Ask e more) rest c.ask.new.self is) (same _)
    (c.in_ok-ask.ensures.asks more))
    c.work.ensures.makes
