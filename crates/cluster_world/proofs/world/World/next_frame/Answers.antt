use Rattle.std.proofs.Common.{arith}
use Rattle.cluster_world.specs.InCode.{items_of}
use Rattle.cluster_world.proofs.Clusters.Finds.{counted_next}
use Rattle.cluster_world.proofs.world.World.next_frame.Goals as goal

pub loop-frames-preserved : goal.loop-frames-preserved
loop-frames-preserved g c =
    let x = c.frames-item.result in
    let next = counted_next items_of c.sent_frames-frames-items.result.now c.loop-frames.frames-index x
    c.loop-frames-test.true c.frames-item.is in
    omega (arith, next, c.len.ensures, x.ok.0, c.loop-frames.invariant, c.in-Some.ensures)
