use Rattle.std.proofs.Common.{◌≡◌, ◌+◌, ◌*◌, ◌-◌, ◌<◌, ◌≤◌, length, drop, get_or, true}
use Rattle.subj.specs.declared.limits.TheConstants.{MAX_WEIGHT}
use Rattle.route_values.specs.Snapshots.{Weighted}
use Rattle.interest.specs.Matches.{weight_in}
use Rattle.interest.specs.Seeks.{matches_entry}
use Rattle.interest.proofs.local.weight_among.Given as goal

abbrev pub invariant-loop-place : goal.invariant-loop-place
invariant-loop-place l = record {
  within : l.place ≤ length l.entries;
  found : (d : Weighted) → l.place < length l.entries → matches_entry l.subject (get_or l.entries l.place d) ≡ true;
  left : l.total + weight_in l.subject l.name (drop l.place l.entries) ≡ weight_in l.subject l.name l.entries;
  small : l.total ≤ l.place * MAX_WEIGHT;
}

abbrev pub decreases-loop-place : goal.decreases-loop-place
decreases-loop-place l = length l.entries - l.place
