use Rattle.std.proofs.Common.{◌≡◌, map, drop}
use Rattle.shard_core.specs.Boxes.{AreConns, client_in_view, shown_backlog}
use Rattle.shard_core.proofs.connections.rollback_all.Given as goal

abbrev pub invariant-loop-place : goal.invariant-loop-place
invariant-loop-place l = record {
  kept : map (client_in_view shown_backlog) l.conns ≡ map (client_in_view shown_backlog) l.fn.conns;
  within : AreConns (drop l.place-index l.places) l.conns;
}
