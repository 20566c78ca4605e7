use Rattle.std.proofs.Common.{◌≡◌, [], length}
use Rattle.subj.specs.Scans.{scan_of, scan_onto}
use Rattle.subj.proofs.scans.Scan.of.Given as goal

-- what is unseen, in front of what was seen, is the whole text
abbrev pub invariant-loop-byte : goal.invariant-loop-byte
invariant-loop-byte l = scan_onto l.scan l.unseen ≡ scan_onto (scan_of []) l.fn.text

abbrev pub decreases-loop-byte : goal.decreases-loop-byte
decreases-loop-byte l = length l.unseen
