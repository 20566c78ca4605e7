use Rattle.std.proofs.Common.{◌≡◌, ◌+◌, length, drop, map}
use Rattle.std.specs.List.{flat_map}
use Rattle.cluster_world.specs.InCode.{life_of, placements_in}
use Rattle.mesh_script.specs.Placing.{cluster_named, placements_text}
use Rattle.mesh_script.proofs.Putting.{PutsSome}
use Rattle.mesh_script.proofs.output.put_placements.Given as goal

-- what the steps so far placed was put, and the rest is left
abbrev pub invariant-loop-placements : goal.invariant-loop-placements
invariant-loop-placements g l = record {
  some : PutsSome l.fn.output (g.S.Sink.written l.fn.sink)
      (placements_text (cluster_named l.known.names.now) (map life_of l.known.lives.now) (flat_map placements_in l.all))
      (placements_text (cluster_named l.known.names.now) (map life_of l.known.lives.now)
      (flat_map placements_in (drop l.placements-index l.all)))
      l.output (g.S.Sink.written l.sink);
  count :
      l.count + length (flat_map placements_in (drop l.placements-index l.all)) ≡ length (flat_map placements_in l.all);
  failures : g.S.Sink.failures l.sink ≡ g.S.Sink.failures l.fn.sink;
}
