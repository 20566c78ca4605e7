use Rattle.std.proofs.Common.{◌≡◌, drop}
use Rattle.mesh_script.specs.Asks.{steps_ask}
use Rattle.mesh_script.specs.Playing.{Moves}
use Rattle.mesh_script.proofs.player.make_all.Given as goal

-- the steps so far were made, and the rest is left
abbrev pub invariant-loop-step : goal.invariant-loop-step
invariant-loop-step g l = record {
  moves : Moves l.fn.player (g.S.Sink.written l.fn.sink) (steps_ask l.fn.player.cluster l.script.names l.step-items)
      (steps_ask l.fn.player.cluster l.script.names (drop l.step-index l.step-items)) l.player
      (g.S.Sink.written l.sink);
  failures : g.S.Sink.failures l.sink ≡ g.S.Sink.failures l.fn.sink;
}
