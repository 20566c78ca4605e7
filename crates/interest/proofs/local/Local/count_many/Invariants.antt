use Rattle.interest.proofs.Counting.Numbered.{Reached}
use Rattle.interest.proofs.local.Local.count_many.Given as goal

abbrev pub invariant-loop-place : goal.invariant-loop-place
invariant-loop-place l =
    Reached l.self l.deltas l.place l.plan.keys l.plan.bytes l.plan.numbers.entries l.plan.changes.items
