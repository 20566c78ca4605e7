use Rattle.std.proofs.Common.{length}
use Rattle.interest.specs.Sights.{text_if}
use Rattle.interest.proofs.Matching.Looking.{IsSoFar}
use Rattle.interest.proofs.sights.look.Given as goal

abbrev pub invariant-loop-width : goal.invariant-loop-width
invariant-loop-width l = IsSoFar l.pattern l.fn.subject l.done l.left (text_if l.beginning)

abbrev pub decreases-loop-width : goal.decreases-loop-width
decreases-loop-width l = length l.left
