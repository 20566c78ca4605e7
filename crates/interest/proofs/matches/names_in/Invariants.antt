use Rattle.std.proofs.Common.{◌≡◌, ◌-◌, ◌<◌, ◌≤◌, length, drop, get_or, map, true}
use Rattle.interest.specs.Matches.{names_in}
use Rattle.interest.specs.Seeks.{matches_entry}
use Rattle.interest.proofs.matches.names_in.Given as goal

abbrev pub invariant-loop-place : goal.invariant-loop-place
invariant-loop-place g l = record {
  within : l.place ≤ length l.entries;
  found : (d : g.row.T.Denot) → l.place < length l.entries
      → matches_entry l.subject (g.T.Keyed.entry (get_or l.entries l.place d)) ≡ true;
  left : names_in l.subject (map g.T.Keyed.entry (drop l.place l.entries)) l.names
      ≡ names_in l.subject (map g.T.Keyed.entry l.entries) l.fn.names;
}

abbrev pub decreases-loop-place : goal.decreases-loop-place
decreases-loop-place g l = length l.entries - l.place
