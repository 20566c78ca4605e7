use Rattle.std.proofs.Common.{◌≡◌, drop, map}
use Rattle.settled_law.specs.Tests.{are_settled}
use Rattle.world_law.specs.State.{Cluster}
use Rattle.cluster_world.specs.Value.{InPlace, running_in}
use Rattle.cluster_world.proofs.nodes.Nodes.are_settled.Given as goal

abbrev pub invariant-loop-place : goal.invariant-loop-place
invariant-loop-place g l =
    (c : Cluster) → InPlace c l.self
    → are_settled c l.subject (map running_in l.self) l.place (map running_in (drop l.place l.self))
    ≡ are_settled c l.subject (map running_in l.self) 0 (map running_in l.self)
