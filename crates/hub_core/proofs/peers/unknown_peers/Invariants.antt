use Rattle.std.proofs.Common.{◌≡◌, ◌≤◌, replicate}
use Rattle.std.specs.Prelude.{vec_len, vec_capacity}
use Rattle.hub_core.specs.State.{unknown_peer}
use Rattle.hub_core.proofs.peers.unknown_peers.Given as goal

abbrev pub invariant-loop-made : goal.invariant-loop-made
invariant-loop-made l = record {
  filled : l.peers.items ≡ replicate l.made unknown_peer;
  number : vec_len l.peers ≡ l.made;
  room : l.count ≤ vec_capacity l.peers;
}
