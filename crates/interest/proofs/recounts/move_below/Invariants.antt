use Rattle.std.proofs.Common.{◌≡◌, ◌+◌, ◌++◌, length}
use Rattle.std.specs.Prelude.{vec_len, vec_capacity}
use Rattle.interest.specs.Recounts.{below, from_key}
use Rattle.interest.proofs.recounts.move_below.Given as goal

abbrev pub invariant-loop-entry : goal.invariant-loop-entry
invariant-loop-entry l = record {
  len : vec_len l.done + length l.entries.items ≡ vec_len l.fn.done + length l.fn.entries.items;
  done : l.done.items ++ below l.key l.entries.items ≡ l.fn.done.items ++ below l.key l.fn.entries.items;
  left : from_key l.key l.entries.items ≡ from_key l.key l.fn.entries.items;
  capacity : vec_capacity l.done ≡ vec_capacity l.fn.done;
}

abbrev pub decreases-loop-entry : goal.decreases-loop-entry
decreases-loop-entry l = length l.entries.items
