use Rattle.std.proofs.Common.{◌≡◌, get_or, ap, arith}
use Rattle.outbox.specs.declared.run_tails.TailMark.{TailMark}
use Rattle.outbox.proofs.Runs.{one_of_run}
use Rattle.outbox.proofs.kept_queue.push_marks.Goals as goal

pub overflow_add-head_len : goal.overflow_add-head_len
overflow_add-head_len c =
    let tail = c.tail-item.result in
    let i = c.loop-tail.tail-index in
    let within = one_of_run c.args.sub c.args.head_len c.args.tails.now i tail c.loop-tail-test.true in
    let here : tail.len ≡ (get_or c.args.tails.now i tail).len = ap (λ (t : TailMark). t.len) c.tail-item.is in
    let all = c.requires.fits in
    omega (arith, within, here, all)
