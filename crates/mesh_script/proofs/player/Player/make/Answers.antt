use Rattle.std.proofs.Common.{ap, ◌∙◌, subst}
use Rattle.mesh_script.specs.Asks.{Wants, act_wants, asks_for}
use Rattle.mesh_script.specs.Playing.{Makes}
use Rattle.mesh_script.proofs.Moving.{makes_failed, breaks_unmoved}
use Rattle.mesh_script.proofs.player.Player.make.Goals as goal

pub returns-in_err-asked-clause-makes : goal.returns-in_err-asked-clause-makes
returns-in_err-asked-clause-makes g c =
    makes_failed _ c.args.self.now _ _ _ _ c.from_residual.ensures.0 (breaks_unmoved c.args.self.now _ _)

pub returns-clause-makes : goal.returns-clause-makes
returns-clause-makes g c =
    let was = g.S.Sink.written c.args.sink.now in
    let is = g.S.Sink.written c.make_asked.new.sink in
    let wants =
    c.in_ok-asked.ensures ∙ ap (λ node. act_wants c.args.names.now node c.args.step.now.act) c.place_of-node.ensures in
    subst (λ (wants : Wants).
    Makes c.make_asked.result c.args.self.now was (asks_for c.args.self.now.cluster wants) c.make_asked.new.self is)
    wants c.make_asked.ensures.makes
