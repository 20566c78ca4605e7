use Rattle.std.proofs.Common.{◌≡◌, ◌≤◌, length, take}
use Rattle.std.specs.Prelude.{vec_len, vec_capacity}
use Rattle.hub_core.specs.Audiences.{plain_of}
use Rattle.hub_core.proofs.audience.plain_at.Given as goal

abbrev pub invariant-loop-peer : goal.invariant-loop-peer
invariant-loop-peer l = record {
  filled : l.plain.items ≡ plain_of l.subject (take l.peer-index l.peers);
  count : vec_len l.plain ≡ l.peer-index;
  room : length l.peers ≤ vec_capacity l.plain;
}
