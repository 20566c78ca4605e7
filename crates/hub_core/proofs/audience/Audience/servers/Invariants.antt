use Rattle.std.proofs.Common.{◌≡◌, ◌≤◌, length, take, map}
use Rattle.std.specs.Prelude.{vec_len, vec_capacity}
use Rattle.pick.specs.Pick.{pick_of}
use Rattle.hub_core.proofs.audience.Audience.servers.Given as goal

abbrev pub invariant-loop-weights : goal.invariant-loop-weights
invariant-loop-weights l = record {
  filled : l.servers.items ≡ map (λ weights. pick_of weights l.word) (take l.weights-index l.self.weights.items);
  count : vec_len l.servers ≡ l.weights-index;
  room : length l.self.weights.items ≤ vec_capacity l.servers;
}
