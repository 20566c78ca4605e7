use Rattle.std.proofs.Common.{rules}
use Rattle.mesh_file.proofs.Unknown.{begins}
use Rattle.mesh_file.proofs.tables.unknown_key.Goals as goal

pub loop-key-init : goal.loop-key-init
loop-key-init c = begins c.args.kind c.args.table.now c.into_iter-key-iterator.result (search rules)
