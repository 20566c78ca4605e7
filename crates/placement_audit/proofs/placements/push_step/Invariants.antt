use Rattle.std.proofs.Common.{◌≡◌, ◌++◌, map, drop}
use Rattle.cluster_world.specs.InCode.{placing_server}
use Rattle.world_law.specs.Play.{placements_put}
use Rattle.placement_audit.specs.InCode.{placement_of}
use Rattle.placement_audit.proofs.placements.push_step.Given as goal

-- what is listed, and what is left of the step, is the whole
abbrev pub invariant-loop-placed : goal.invariant-loop-placed
invariant-loop-placed l =
    map placement_of l.placements.items
    ++ placements_put (placing_server l.put.node l.put.inc) l.put.step (drop l.placed-index l.put.entries.items)
    ≡ map placement_of l.fn.placements.items
    ++ placements_put (placing_server l.put.node l.put.inc) l.put.step l.put.entries.items
