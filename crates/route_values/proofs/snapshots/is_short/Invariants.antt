use Rattle.std.proofs.Common.{◌≡◌, ◌+◌, ◌≤◌, length, take}
use Rattle.subj.specs.declared.limits.TheConstants.{MAX_SNAPSHOT}
use Rattle.route_values.specs.Snapshots.{snapshot_text, total_cost}
use Rattle.route_values.proofs.snapshots.is_short.Given as goal

-- what is left is the limit without the lines so far, which are not longer than their keys count
abbrev pub invariant-loop-entry : goal.invariant-loop-entry
invariant-loop-entry l = record {
  left : l.left + length (snapshot_text (take l.entry-index l.keys)) ≡ MAX_SNAPSHOT;
  counted : length (snapshot_text (take l.entry-index l.keys)) ≤ total_cost (take l.entry-index l.keys);
}
