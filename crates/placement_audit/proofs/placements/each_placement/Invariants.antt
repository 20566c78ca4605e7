use Rattle.std.proofs.Common.{◌≡◌, ◌++◌, map, drop}
use Rattle.std.specs.List.{flat_map}
use Rattle.cluster_world.specs.InCode.{placements_in}
use Rattle.placement_audit.specs.InCode.{placement_of}
use Rattle.placement_audit.proofs.placements.each_placement.Given as goal

-- what is listed, and what is left, is the whole
abbrev pub invariant-loop-put : goal.invariant-loop-put
invariant-loop-put l =
    map placement_of l.placements.items ++ flat_map placements_in (drop l.put-index l.steps)
    ≡ flat_map placements_in l.steps
