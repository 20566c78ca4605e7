use Rattle.std.proofs.Common.{◌+◌, ◌-◌, drop, ap, sym, ◌∙◌, arith}
use Rattle.std.specs.Prelude.{slice_get}
use Rattle.std.specs.List.{flat_map}
use Rattle.std.proofs.lemmas.Option.{slice_get_read}
use Rattle.cluster_world.specs.InCode.{items_of}
use Rattle.cluster_world.proofs.Clusters.Finds.{found_here, found_later}
use Rattle.cluster_world.proofs.nodes.frame_at.Goals as goal

pub returns-then-left-len : goal.returns-then-left-len
returns-then-left-len c =
    let x = c.frames-item.result in
    sym (slice_get_read x.items x.len c.loop-frames.left c.index.result.now x.ok.0
    (omega (arith, c.if-left-len.true, c.len.ensures)) c.index.ensures)
    ∙ sym (found_here items_of c.args.sent.now c.loop-frames.frames-index c.loop-frames.left x c.loop-frames-test.true
    c.frames-item.is (omega (arith, c.if-left-len.true, c.len.ensures, x.ok.0)))
    ∙ c.loop-frames.invariant

pub loop-frames-preserved : goal.loop-frames-preserved
loop-frames-preserved c =
    let x = c.frames-item.result in
    ap (λ m.
    slice_get (flat_map items_of (drop (c.loop-frames.frames-index + 1) c.args.sent.now)) (c.loop-frames.left - m))
    (c.len-left.ensures ∙ x.ok.0)
    ∙ sym (found_later items_of c.args.sent.now c.loop-frames.frames-index c.loop-frames.left x c.loop-frames-test.true
    c.frames-item.is (omega (arith, c.if-left-len.false, c.len.ensures, x.ok.0)))
    ∙ c.loop-frames.invariant
