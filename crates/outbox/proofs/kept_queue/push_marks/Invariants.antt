use Rattle.std.proofs.Common.{◌≡◌, ◌++◌, map, take}
use Rattle.std.specs.VecDeque.{deque_capacity}
use Rattle.outbox.specs.Kept.{mark_in_run}
use Rattle.outbox.proofs.kept_queue.push_marks.Given as goal

abbrev pub invariant-loop-tail : goal.invariant-loop-tail
invariant-loop-tail l =
    (l.marks.items ≡ l.fn.marks.items ++ map (mark_in_run l.sub l.head_len) (take l.tail-index l.tails))
    × (deque_capacity l.marks ≡ deque_capacity l.fn.marks)
