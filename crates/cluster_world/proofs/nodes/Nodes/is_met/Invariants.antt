use Rattle.std.proofs.Common.{◌≡◌, drop, map}
use Rattle.settled_law.specs.Tests.{are_peers_settled}
use Rattle.cluster_world.specs.Value.{running_in, running_of}
use Rattle.cluster_world.proofs.nodes.Nodes.is_met.Given as goal

abbrev pub invariant-loop-place : goal.invariant-loop-place
invariant-loop-place g l =
    are_peers_settled l.n (running_of l.node) l.place (map running_in (drop l.place l.self))
    ≡ are_peers_settled l.n (running_of l.node) 0 (map running_in l.self)
