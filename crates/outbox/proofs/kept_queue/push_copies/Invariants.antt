use Rattle.std.proofs.Common.{◌≡◌, ◌++◌, take}
use Rattle.std.specs.VecDeque.{deque_capacity}
use Rattle.outbox.specs.Kept.{kept_run}
use Rattle.outbox.proofs.kept_queue.push_copies.Given as goal

abbrev pub invariant-loop-tail : goal.invariant-loop-tail
invariant-loop-tail l =
    (l.kept.items ≡ l.fn.kept.items ++ kept_run l.sub l.head_len (take l.tail-index l.tails))
    × (deque_capacity l.kept ≡ deque_capacity l.fn.kept)
