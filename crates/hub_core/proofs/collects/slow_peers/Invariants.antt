use Rattle.std.proofs.Common.{◌≡◌, ◌++◌, drop}
use Rattle.hub_core.specs.Telling.{slow_from}
use Rattle.hub_core.proofs.collects.slow_peers.Given as goal

abbrev pub invariant-loop-place : goal.invariant-loop-place
invariant-loop-place l =
    l.places.items ++ slow_from l.count l.place (drop l.place l.peers) ≡ slow_from l.count 0 l.peers
