use Rattle.std.proofs.Common.{◌∙◌, ap, length, drop, length-drop, arith}
use Rattle.job_lane.proofs.Lists.{drop_more}
use Rattle.job_lane.proofs.counts.Count.keep_last.Goals as goal

pub forget_first-requires : goal.forget_first-requires
forget_first-requires c =
    let kept = c.loop-forgotten.invariant in
    let long = ap length kept.1 ∙ length-drop c.loop-forgotten._forgotten c.args.self.now.lengths in
    let low = c.loop-forgotten-test.true in
    let count = kept.2 in
    omega arith

pub loop-forgotten-preserved : goal.loop-forgotten-preserved
loop-forgotten-preserved c =
    let kept = c.loop-forgotten.invariant in (
      ap (λ v. v.most) c.forget_first.ensures ∙ kept.0,
      ap (λ v. v.lengths) c.forget_first.ensures ∙ ap (drop 1) kept.1
          ∙ drop_more c.args.self.now.lengths c.loop-forgotten._forgotten,
      kept.2,
    )
