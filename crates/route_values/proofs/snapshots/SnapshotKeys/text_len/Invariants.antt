use Rattle.std.proofs.Common.{◌≡◌, length, take}
use Rattle.route_values.specs.Snapshots.{snapshot_text}
use Rattle.route_values.proofs.snapshots.SnapshotKeys.text_len.Given as goal

-- the bytes of the lines so far
abbrev pub invariant-loop-entry : goal.invariant-loop-entry
invariant-loop-entry l = l.len ≡ length (snapshot_text (take l.entry-index l.entry-items))
