-- What each shard opened and closed is counted, up to where the loop is.
use Rattle.node_net.specs.Turning.{CollectsEach}
use Rattle.node_net.proofs.server.Server.collect_all.Given as goal

abbrev pub invariant-loop-place : goal.invariant-loop-place
invariant-loop-place g l = CollectsEach (g.C.ServerCalls.collected l.node) l.place
