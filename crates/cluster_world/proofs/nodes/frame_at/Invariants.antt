use Rattle.std.proofs.Common.{◌≡◌, drop}
use Rattle.std.specs.Prelude.{slice_get}
use Rattle.std.specs.List.{flat_map}
use Rattle.world_law.specs.Events.{frame_at}
use Rattle.cluster_world.specs.InCode.{items_of}
use Rattle.cluster_world.proofs.nodes.frame_at.Given as goal

abbrev pub invariant-loop-frames : goal.invariant-loop-frames
invariant-loop-frames l =
    slice_get (flat_map items_of (drop l.frames-index l.sent)) l.left ≡ frame_at l.number (flat_map items_of l.sent)
