use Rattle.std.proofs.Common.{◌≡◌, ◌+◌, ◌≤◌, ◌++◌, length}
use Rattle.std.specs.Prelude.{vec_len, vec_capacity}
use Rattle.std.specs.List.Sorted.{IsStrictlySortedBy}
use Rattle.std.specs.Map.{keys_of}
use Rattle.subj.specs.Keys.{key_cmp}
use Rattle.interest.specs.Recounts.{with_numbers}
use Rattle.interest.proofs.recounts.entries_after.Given as goal

abbrev pub invariant-loop-key : goal.invariant-loop-key
invariant-loop-key l = record {
  rising : IsStrictlySortedBy key_cmp (keys_of l.left.items);
  ordered : IsStrictlySortedBy key_cmp (keys_of l.numbers.entries);
  room : vec_len l.done + length l.left.items + length l.numbers.entries ≤ vec_capacity l.done;
  items : l.done.items ++ with_numbers l.left.items l.numbers.entries
      ≡ with_numbers l.fn.entries.items l.fn.numbers.entries;
  capacity : vec_capacity l.done ≡ vec_capacity l.fn.room;
}

abbrev pub decreases-loop-key : goal.decreases-loop-key
decreases-loop-key l = length l.numbers.entries
