use Rattle.std.proofs.Common.{◌≡◌, drop}
use Rattle.std.specs.List.{list_any}
use Rattle.hub_core.specs.InMind.{is_of_queue}
use Rattle.hub_core.proofs.own_interest.is_queued_by.Given as goal

abbrev pub invariant-loop-delta : goal.invariant-loop-delta
invariant-loop-delta l = list_any is_of_queue (drop l.delta-index l.deltas) ≡ list_any is_of_queue l.deltas
