use Rattle.std.proofs.Common.{◌≡◌, length}
use Rattle.subj.specs.Matching.{subject_matches}
use Rattle.subj.proofs.patterns.tokens_match.Given as goal

-- what is left decides as the whole does
abbrev pub invariant-loop-wanted : goal.invariant-loop-wanted
invariant-loop-wanted l = subject_matches l.pattern l.subject ≡ subject_matches l.fn.pattern l.fn.subject

abbrev pub decreases-loop-wanted : goal.decreases-loop-wanted
decreases-loop-wanted l = length l.pattern
