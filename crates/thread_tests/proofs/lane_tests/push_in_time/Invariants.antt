use Rattle.std.proofs.Common.{◌≡◌}
use Rattle.thread_tests.proofs.lane_tests.push_in_time.Given as goal

abbrev pub invariant-loop : goal.invariant-loop
invariant-loop g l =
    (goal.iterator-loop g).can_next l.iterator'
    × (goal.iterator-loop g).is_finite l.iterator'
    × (l.run ≡ l.fn.run)
    × (l.writer.lane ≡ l.initial.writer.lane)
    × (l.writer.pushed ≡ l.initial.writer.pushed)
