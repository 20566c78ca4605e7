use Rattle.std.proofs.Common.{◌≡◌, drop, map}
use Rattle.cluster_world.specs.InCode.{event_of}
use Rattle.mesh_script.specs.Asks.{work_asks}
use Rattle.mesh_script.specs.Playing.{Moves}
use Rattle.mesh_script.proofs.player.Player.work.Given as goal

-- the events so far were made, and placed so many messages
abbrev pub invariant-loop-event : goal.invariant-loop-event
invariant-loop-event g l = record {
  moves : Moves l.fn.self (g.S.Sink.written l.fn.sink) (work_asks (map event_of l.events) 0)
      (work_asks (map event_of (drop l.event-index l.events)) l.placed) l.self (g.S.Sink.written l.sink);
  failures : g.S.Sink.failures l.sink ≡ g.S.Sink.failures l.fn.sink;
}
