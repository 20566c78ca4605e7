use Rattle.std.proofs.Common.{◌≡◌, drop, map}
use Rattle.settled_law.specs.Tests.{are_roomy}
use Rattle.cluster_world.specs.Value.{running_in}
use Rattle.cluster_world.proofs.nodes.Nodes.have_room_for.Given as goal

abbrev pub invariant-loop-slot : goal.invariant-loop-slot
invariant-loop-slot g l =
    are_roomy l.message (map running_in (drop l.slot-index l.slot-items))
    ≡ are_roomy l.message (map running_in l.slot-items)
