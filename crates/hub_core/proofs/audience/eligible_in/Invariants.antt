use Rattle.std.proofs.Common.{◌≡◌, ◌≤◌, ◌++◌, length, drop}
use Rattle.std.specs.Prelude.{vec_len, vec_capacity}
use Rattle.hub_core.specs.Audiences.{eligible_from}
use Rattle.hub_core.proofs.audience.eligible_in.Given as goal

abbrev pub invariant-loop-place : goal.invariant-loop-place
invariant-loop-place l = record {
  filled : l.eligible.items ++ eligible_from l.server l.place (drop l.place l.peers) ≡ eligible_from l.server 0 l.peers;
  count : vec_len l.eligible ≡ l.place;
  room : length l.peers ≤ vec_capacity l.eligible;
}
