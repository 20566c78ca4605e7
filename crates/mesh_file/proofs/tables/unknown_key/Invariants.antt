use Rattle.std.proofs.Common.{◌≡◌}
use Rattle.toml.specs.View.{table_view}
use Rattle.mesh_file.specs.Keys.{unknown_key}
use Rattle.mesh_file.proofs.Unknown.{unknown_among}
use Rattle.mesh_file.proofs.tables.unknown_key.Given as goal

abbrev pub invariant-loop-key : goal.invariant-loop-key
invariant-loop-key l = unknown_key l.kind (table_view l.table) ≡ unknown_among l.kind l.key-iterator
