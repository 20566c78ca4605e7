use Rattle.std.proofs.Common.{◌≡◌, ◌≤◌, length, take, map}
use Rattle.std.specs.Prelude.{vec_len, vec_capacity}
use Rattle.hub_core.specs.Choice.{weights_from}
use Rattle.hub_core.proofs.audience.weights_of.Given as goal

abbrev pub invariant-loop-name : goal.invariant-loop-name
invariant-loop-name l = record {
  filled : l.weights.items
      ≡ map (λ name. weights_from l.server l.counts l.subject name 0 l.peers) (take l.name-index l.names);
  count : vec_len l.weights ≡ l.name-index;
  room : length l.names ≤ vec_capacity l.weights;
}
