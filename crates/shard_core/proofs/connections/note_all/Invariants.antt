use Rattle.std.proofs.Common.{drop}
use Rattle.shard_core.specs.Dirty.{AreKept, AreToldBut}
use Rattle.shard_core.proofs.connections.note_all.Given as goal

abbrev pub invariant-loop-place : goal.invariant-loop-place
invariant-loop-place l = record {
  told : AreToldBut (drop l.place-index l.places) l.places l.conns.items l.dirty_conns;
  kept : AreKept l.fn.dirty_conns l.dirty_conns;
}
