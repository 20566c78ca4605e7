-- Where the search stands, and what it has found.
use Rattle.std.proofs.Common.{arith}
use Rattle.wire_cut.proofs.SearchLemmas.{found_at, none_up_to, none_at_all, in_range}
use Rattle.wire_cut.proofs.cutter.find_cr_lf.Goals as goal
use Rattle.wire_cut.proofs.cutter.find_cr_lf.Goals.{else-at-gt0-via-then-at-gt0+else-bytes-at-eq-CR, else-at-gt0-via-else-at-gt0}

pub returns-then-bytes-at-eq-CR : goal.returns-then-bytes-at-eq-CR
returns-then-bytes-at-eq-CR c =
    found_at _ _ _ c.loop-offset.invariant.0 c.loop-offset.invariant.1 c.in-Some.ensures (omega arith)
    c.if-bytes-at-eq-CR.true

pub loop-offset-preserved : goal.loop-offset-preserved
loop-offset-preserved c =
    let inside = in_range _ _ _ c.loop-offset.invariant.0 c.loop-offset.invariant.1 c.in-Some.ensures in (
      omega arith,
      none_up_to _ _ _ c.loop-offset.invariant.0 c.loop-offset.invariant.1 c.in-Some.ensures (λ some cr.
          elim c.else-at-gt0.branch [
            | else-at-gt0-via-then-at-gt0+else-bytes-at-eq-CR w ↦ w.if-bytes-at-eq-CR.false cr
            | else-at-gt0-via-else-at-gt0 w ↦ omega arith
          ]),
    )

pub returns : goal.returns
returns c = none_at_all _ _ c.loop-offset.invariant.0 c.loop-offset.invariant.1 c.in_default.ensures
