use Rattle.shard_core.proofs.RunAlike.{runs_go_by_receivers}
use Rattle.shard_core.proofs.run_laws.runs_go_by_receivers.Goals as goal

pub returns : goal.returns
returns start = runs_go_by_receivers
