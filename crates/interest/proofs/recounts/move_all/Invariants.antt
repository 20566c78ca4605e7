use Rattle.std.proofs.Common.{◌≡◌, ◌+◌, ◌≤◌, ◌++◌, length}
use Rattle.std.specs.Prelude.{vec_len, vec_capacity}
use Rattle.interest.proofs.recounts.move_all.Given as goal

abbrev pub invariant-loop-entry : goal.invariant-loop-entry
invariant-loop-entry l = record {
  room : vec_len l.done + length l.entries.items ≤ vec_capacity l.done;
  done : l.done.items ++ l.entries.items ≡ l.fn.done.items ++ l.fn.entries.items;
  capacity : vec_capacity l.done ≡ vec_capacity l.fn.done;
}

abbrev pub decreases-loop-entry : goal.decreases-loop-entry
decreases-loop-entry l = length l.entries.items
