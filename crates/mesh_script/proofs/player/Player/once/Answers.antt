use Rattle.mesh_script.specs.Asks.{once}
use Rattle.cluster_world.specs.InCode.{event_of}
use Rattle.mesh_script.proofs.Moving.{makes_failed, breaks_first}
use Rattle.mesh_script.proofs.player.Player.once.Goals as goal

pub returns-in_err-ask_for-clause-makes : goal.returns-in_err-ask_for-clause-makes
returns-in_err-ask_for-clause-makes g c =
    makes_failed _ c.args.self.now _ _ _ (once (event_of c.args.event)) c.from_residual.ensures.0
    (breaks_first c.args.self.now _ _ _ c.in_err-ask_for.ensures.asks)
