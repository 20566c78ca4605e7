use Rattle.std.proofs.Common.{◌≡◌, ◌+◌, length}
use Rattle.thread_tests.proofs.lane_tests.run_behind.Given as goal

abbrev pub invariant-loop-made : goal.invariant-loop-made
invariant-loop-made g l = (l.block.first_turn ≡ l.fn.last + 1) × (length l.block.jobs ≡ l._made)
