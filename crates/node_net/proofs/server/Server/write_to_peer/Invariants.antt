-- Frames were taken and sent any number of times.
use Rattle.std.specs.Prelude.{is_none}
use Rattle.node_net.proofs.TellingLemmas.{ToldSoFar}
use Rattle.node_net.proofs.server.Server.write_to_peer.Given as goal

abbrev pub invariant-loop-round : goal.invariant-loop-round
invariant-loop-round g l =
    ToldSoFar g.C.Hub.HubCalls.routed g.S.Stream.gave g.S.Stream.wrote (is_none l.fn.self.loops) l.peer l.key
    l.fn.self.connections.table l.self.connections.table
