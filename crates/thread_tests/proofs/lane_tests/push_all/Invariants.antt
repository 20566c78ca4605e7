use Rattle.std.proofs.Common.{◌≡◌, length}
use Rattle.thread_tests.proofs.lane_tests.push_all.Given as goal

abbrev pub invariant-loop-round : goal.invariant-loop-round
invariant-loop-round g l = (l.last ≡ length l.writer.pushed) × (l.writer.lane ≡ l.fn.writer.lane)
