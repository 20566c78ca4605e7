use Rattle.shard_core.proofs.RunAlike.{runs_go_on}
use Rattle.shard_core.proofs.run_laws.runs_go_on.Goals as goal

pub returns : goal.returns
returns start = runs_go_on
