use Rattle.std.proofs.Common.{ap, sym, ◌∙◌, map}
use Rattle.cluster_world.specs.InCode.{event_of}
use Rattle.hub_core.specs.Publishing.{Publication}
use Rattle.mesh_script.specs.Owed.{delivery}
use Rattle.mesh_script.specs.Asks.{work_asks}
use Rattle.mesh_script.proofs.Moving.{makes_failed, breaks_unmoved}
use Rattle.mesh_script.proofs.player.Player.deliver.Goals as goal

pub returns-in_err-events-clause-makes : goal.returns-in_err-events-clause-makes
returns-in_err-events-clause-makes g c =
    makes_failed _ c.args.self.now _ _ _ _ c.from_residual.ensures.0 (breaks_unmoved c.args.self.now _ _)

pub returns-clause-makes : goal.returns-clause-makes
returns-clause-makes g c =
    let p : Publication = record { conn = c.args.conn; publication = c.args.publication; word = c.args.word } in
    c.ask_and_work.ensures.makes (λ w outcome. work_asks (delivery c.args.self.now.cluster w c.args.node p) 0)
    (λ outcome.
    ap (λ events. work_asks events 0) (sym c.in_ok-events.ensures ∙ ap (map event_of) (sym c.deref.ensures.value)))
