use Rattle.std.proofs.Common.{◌≡◌, length}
use Rattle.route_values.specs.Snapshots.{are_rising}
use Rattle.route_values.specs.ValidKeys.{AreWeighted}
use Rattle.route_values.proofs.snapshots.are_rising.Given as goal

-- what is left decides as the whole does, and all have their weights where what is left have
abbrev pub invariant-loop-entry : goal.invariant-loop-entry
invariant-loop-entry l = record {
  decides : are_rising l.keys ≡ are_rising l.fn.keys;
  weighted : AreWeighted l.keys → AreWeighted l.fn.keys;
}

abbrev pub decreases-loop-entry : goal.decreases-loop-entry
decreases-loop-entry l = length l.keys
