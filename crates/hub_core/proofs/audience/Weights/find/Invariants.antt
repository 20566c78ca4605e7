use Rattle.std.proofs.Common.{◌≡◌, ◌≤◌, ◌*◌, ◌++◌, length, drop}
use Rattle.std.specs.Prelude.{vec_len, vec_capacity}
use Rattle.subj.specs.declared.limits.TheConstants.{MAX_KEYS, MAX_WEIGHT}
use Rattle.pick.specs.Pick.{total_weight}
use Rattle.hub_core.specs.Choice.{weights_from}
use Rattle.hub_core.proofs.audience.Weights.find.Given as goal

abbrev pub invariant-loop-place : goal.invariant-loop-place
invariant-loop-place l = record {
  rest : l.servers.items ++ weights_from l.server l.counts l.subject l.name l.place (drop l.place l.peers)
      ≡ weights_from l.server l.counts l.subject l.name 0 l.peers;
  fits : total_weight l.servers.items ≤ l.place * (MAX_KEYS * MAX_WEIGHT);
  count : vec_len l.servers ≡ l.place;
  room : length l.peers ≤ vec_capacity l.servers;
}
