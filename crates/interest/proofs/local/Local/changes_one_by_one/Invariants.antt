use Rattle.interest.proofs.Counting.InOrder.{CountedSoFar}
use Rattle.interest.proofs.local.Local.changes_one_by_one.Given as goal

abbrev pub invariant-loop-place : goal.invariant-loop-place
invariant-loop-place l = CountedSoFar l.self l.deltas l.place l.keys l.bytes l.changes
