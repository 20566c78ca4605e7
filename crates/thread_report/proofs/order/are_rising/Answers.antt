use Rattle.std.proofs.Common.{◌+◌, ◌<◌, length, take, arith, sym, subst}
use Rattle.thread_report.proofs.Orders.{AreBelow, below_more, comes_after, in_order_more}
use Rattle.thread_report.proofs.order.are_rising.Goals as goal

pub loop-call-preserved : goal.loop-call-preserved
loop-call-preserved c =
    let l = c.loop-call in
    let n = l.call-index in
    let calls = c.args.calls.now in
    let call = c.call-item.result in
    let e = c.is_next.ensures c.if-not-is_next.false in
    let lt : n < length calls = omega arith in (
      in_order_more calls n call lt c.call-item.is l.invariant.0
          (comes_after l.least (take n calls) call l.invariant.1 e.1),
      subst (λ least. AreBelow least (take (n + 1) calls)) (sym e.2)
          (below_more l.least calls n call lt c.call-item.is l.invariant.1 e.0 e.1),
    )
