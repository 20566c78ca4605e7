use Rattle.std.proofs.Common.{◌≡◌, ◌-◌, ◌<◌, ◌≤◌, ℕ, length, false, get_or}
use Rattle.subj.specs.Matching.{subject_matches}
use Rattle.interest.proofs.seeks.next_match.Given as goal

abbrev pub invariant-loop-place : goal.invariant-loop-place
invariant-loop-place g l = record {
  after : l.from ≤ l.place;
  within : l.place ≤ length l.entries;
  passed : (i : ℕ) (d : g.row.T.Denot) → l.from ≤ i → i < l.place
      → subject_matches (g.T.Keyed.entry (get_or l.entries i d)).0.pattern l.subject ≡ false;
}

abbrev pub decreases-loop-place : goal.decreases-loop-place
decreases-loop-place g l = length l.entries - l.place
