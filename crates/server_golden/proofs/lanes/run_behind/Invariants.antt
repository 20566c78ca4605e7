use Rattle.std.proofs.Common.{◌≡◌, ◌+◌}
use Rattle.server_golden.proofs.lanes.run_behind.Given as goal

abbrev pub invariant-loop-made : goal.invariant-loop-made
invariant-loop-made l = l.block.first_turn ≡ l.fn.last + 1
