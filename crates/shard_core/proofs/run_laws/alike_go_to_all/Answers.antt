use Rattle.shard_core.proofs.RunAlike.{alike_go_to_all}
use Rattle.shard_core.proofs.run_laws.alike_go_to_all.Goals as goal

pub returns : goal.returns
returns start = alike_go_to_all
