use Rattle.shard_core.proofs.RunAlike.{alike_by_fields}
use Rattle.shard_core.proofs.run_laws.alike_by_fields.Goals as goal

pub returns : goal.returns
returns start = alike_by_fields
