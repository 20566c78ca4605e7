use Rattle.std.proofs.Common.{◌≡◌, suc, ◌+◌, length, drop}
use Rattle.std.specs.List.{flat_map}
use Rattle.cluster_world.specs.InCode.{items_of}
use Rattle.cluster_world.proofs.world.World.next_frame.Given as goal

-- those so far and those of the rest are all
abbrev pub invariant-loop-frames : goal.invariant-loop-frames
invariant-loop-frames g l =
    l.number + length (flat_map items_of (drop l.frames-index l.frames-items))
    ≡ suc (length (flat_map items_of l.frames-items))
