-- As many are closed as the loop has turned.
use Rattle.node_net.specs.Holds.{names_of}
use Rattle.node_net.proofs.HoldLemmas.{SoFar}
use Rattle.node_net.proofs.client_link.close_some.Given as goal

abbrev pub invariant-loop : goal.invariant-loop
invariant-loop g l = SoFar g.S.ClientCalls.made l.id (names_of l.fn.sids) l.fn.shard (names_of l.sids) l.shard l.counter
