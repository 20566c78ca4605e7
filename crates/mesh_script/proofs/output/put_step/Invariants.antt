use Rattle.std.proofs.Common.{◌≡◌, ◌+◌, length, drop, map}
use Rattle.cluster_world.specs.InCode.{life_of, placing_server}
use Rattle.world_law.specs.Play.{placements_put}
use Rattle.mesh_script.specs.Placing.{cluster_named, placements_text}
use Rattle.mesh_script.proofs.Putting.{PutsSome}
use Rattle.mesh_script.proofs.output.put_step.Given as goal

-- the entries so far were put, and the rest is left
abbrev pub invariant-loop-placed : goal.invariant-loop-placed
invariant-loop-placed g l = record {
  some : PutsSome l.fn.output (g.S.Sink.written l.fn.sink)
      (placements_text (cluster_named l.known.names.now) (map life_of l.known.lives.now)
      (placements_put (placing_server l.placements.node l.placements.inc) l.placements.step l.placements.entries.items))
      (placements_text (cluster_named l.known.names.now) (map life_of l.known.lives.now)
      (placements_put (placing_server l.placements.node l.placements.inc) l.placements.step
      (drop l.placed-index l.placements.entries.items)))
      l.output (g.S.Sink.written l.sink);
  count : l.count
      + length (placements_put (placing_server l.placements.node l.placements.inc) l.placements.step
      (drop l.placed-index l.placements.entries.items))
      ≡ l.before
      + length
      (placements_put (placing_server l.placements.node l.placements.inc) l.placements.step l.placements.entries.items);
  failures : g.S.Sink.failures l.sink ≡ g.S.Sink.failures l.fn.sink;
}
