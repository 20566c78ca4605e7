use Rattle.std.proofs.Common.{arith}
use Rattle.node_net.proofs.TakingLemmas.{sends_next}
use Rattle.node_net.proofs.connections.Connections.write_all.Goals as goal
use Rattle.node_net.proofs.connections.Connections.write_all.Goals.{in-Some, in-None}

pub loop-place-preserved : goal.loop-place-preserved
loop-place-preserved g c = elim c.match-get.branch [
  | in-None w ↦ absurd (omega (arith, w.in-None.ensures.none, c.loop-place-test.true, c.count-place-end.ensures))
  | in-Some w ↦
      rw w.self-is (sends_next g.S.Stream.gave g.S.Stream.wrote c.args.self.now.table c.loop-place.self.table
      w.write_part.new.self.table c.args.parts.now c.loop-place.place w.in-Some.key w.in-Some.bytes.now
      c.loop-place.invariant w.in-Some.ensures.part w.write_part.ensures)
]
