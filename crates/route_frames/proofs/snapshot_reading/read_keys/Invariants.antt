use Rattle.std.proofs.Common.{◌≡◌, length}
use Rattle.route_frames.specs.Meaning.{with_front}
use Rattle.route_frames.specs.SnapshotTexts.{pieces, keys_in}
use Rattle.route_frames.proofs.snapshot_reading.read_keys.Given as goal

-- the keys so far and those of the rest are all
abbrev pub invariant-loop-line : goal.invariant-loop-line
invariant-loop-line l = with_front l.keys.items (keys_in (pieces 10 l.rest)) ≡ keys_in (pieces 10 l.fn.text)

abbrev pub decreases-loop-line : goal.decreases-loop-line
decreases-loop-line l = length (pieces 10 l.rest)
