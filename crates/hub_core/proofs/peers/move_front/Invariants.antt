use Rattle.std.proofs.Common.{◌≡◌, ◌+◌, ◌≤◌, ◌++◌, take, drop, vec_len, vec_capacity}
use Rattle.std.specs.VecDeque.{deque_capacity}
use Rattle.hub_core.proofs.peers.move_front.Given as goal

abbrev pub invariant-loop-moved : goal.invariant-loop-moved
invariant-loop-moved l = record {
  room : vec_len l.to + l.count ≤ vec_capacity l.to + l.moved;
  to : l.to.items ≡ l.fn.to.items ++ take l.moved l.fn.from.items;
  from : l.from.items ≡ drop l.moved l.fn.from.items;
  capacity : deque_capacity l.from ≡ deque_capacity l.fn.from;
}
