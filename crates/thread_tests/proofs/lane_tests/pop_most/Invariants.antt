use Rattle.std.proofs.Common.{◌≡◌}
use Rattle.thread_tests.proofs.lane_tests.pop_most.Given as goal

abbrev pub invariant-loop-popped : goal.invariant-loop-popped
invariant-loop-popped g l = l.reader.lane ≡ l.fn.reader.lane
