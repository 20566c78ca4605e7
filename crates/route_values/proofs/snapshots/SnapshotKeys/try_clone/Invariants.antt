use Rattle.std.proofs.Common.{◌≡◌, take}
use Rattle.route_values.proofs.snapshots.SnapshotKeys.try_clone.Given as goal

-- as many copies as keys were passed
abbrev pub invariant-loop-entry : goal.invariant-loop-entry
invariant-loop-entry l = l.keys.items ≡ take l.entry-index l.entry-items
