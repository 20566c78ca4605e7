use Rattle.std.proofs.Common.{◌≡◌, ◌-◌, ◌<◌, ◌≤◌, length, drop, get_or, map, true}
use Rattle.interest.specs.Matches.{has_kind_match}
use Rattle.interest.specs.Seeks.{matches_entry}
use Rattle.interest.proofs.matches.has_match.Given as goal

abbrev pub invariant-loop-place : goal.invariant-loop-place
invariant-loop-place g l = record {
  within : l.place ≤ length l.entries;
  found : (d : g.row.T.Denot) → l.place < length l.entries
      → matches_entry l.subject (g.T.Keyed.entry (get_or l.entries l.place d)) ≡ true;
  left : has_kind_match l.plain l.subject (map g.T.Keyed.entry (drop l.place l.entries))
      ≡ has_kind_match l.plain l.subject (map g.T.Keyed.entry l.entries);
}

abbrev pub decreases-loop-place : goal.decreases-loop-place
decreases-loop-place g l = length l.entries - l.place
