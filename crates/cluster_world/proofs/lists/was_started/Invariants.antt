use Rattle.std.proofs.Common.{◌≡◌, drop, map}
use Rattle.cluster_world.specs.InCode.{started_of}
use Rattle.world_law.specs.Refusals.{is_used}
use Rattle.cluster_world.proofs.lists.was_started.Given as goal

abbrev pub invariant-loop-start : goal.invariant-loop-start
invariant-loop-start l =
    is_used l.node l.inc (map started_of (drop l.start-index l.started))
    ≡ is_used l.node l.inc (map started_of l.started)
