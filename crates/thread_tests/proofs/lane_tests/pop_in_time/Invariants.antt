use Rattle.std.proofs.Common.{◌≡◌}
use Rattle.thread_tests.proofs.lane_tests.pop_in_time.Given as goal

abbrev pub invariant-loop : goal.invariant-loop
invariant-loop g l =
    (goal.iterator-loop g).can_next l.iterator'
    × (goal.iterator-loop g).is_finite l.iterator'
    × (l.reader.lane ≡ l.initial.reader.lane)
