use Rattle.std.proofs.Common.{◌≡◌, ◌+◌, ◌++◌, ◌≤◌, length, take, vec_len, vec_capacity}
use Rattle.route_values.specs.Snapshots.{snapshot_text}
use Rattle.route_values.proofs.snapshots.put_lines.Given as goal

-- the lines of the keys so far are appended
abbrev pub invariant-loop-entry : goal.invariant-loop-entry
invariant-loop-entry l = record {
  items : l.out.items ≡ l.fn.out.items ++ snapshot_text (take l.entry-index l.keys);
  len : vec_len l.out ≡ vec_len l.fn.out + length (snapshot_text (take l.entry-index l.keys));
  capacity : vec_capacity l.fn.out ≤ vec_capacity l.out;
}
