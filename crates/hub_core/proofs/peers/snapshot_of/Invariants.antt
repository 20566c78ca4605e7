use Rattle.std.proofs.Common.{◌≡◌, Some, ◌++◌}
use Rattle.std.specs.List.{AllByRecursion}
use Rattle.interest.specs.KeysLeft.{keys_left}
use Rattle.interest.specs.Views.{told_view}
use Rattle.route_values.specs.Snapshots.{Weighted, weighted_key}
use Rattle.hub_core.proofs.peers.snapshot_of.Given as goal

abbrev pub invariant-loop-key : goal.invariant-loop-key
invariant-loop-key l = record {
  goes : (goal.iterator-loop-key).can_next l.left × (goal.iterator-loop-key).is_finite l.left;
  each : AllByRecursion (λ (weighted : Weighted). weighted_key weighted.0 weighted.1 ≡ Some weighted)
      (told_view (keys_left l.left));
  whole : l.keys.items ++ told_view (keys_left l.left) ≡ told_view l.counts;
}
