-- The parts up to where the loop is are sent.
use Rattle.std.proofs.Common.{take}
use Rattle.node_net.specs.Taking.{SendsEach}
use Rattle.node_net.proofs.connections.Connections.write_all.Given as goal

abbrev pub invariant-loop-place : goal.invariant-loop-place
invariant-loop-place g l =
    SendsEach g.S.Stream.gave g.S.Stream.wrote l.fn.self.table (take l.place l.parts) l.self.table
