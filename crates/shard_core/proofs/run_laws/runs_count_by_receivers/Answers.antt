use Rattle.shard_core.proofs.RunReceivers.{runs_count_by_receivers}
use Rattle.shard_core.proofs.run_laws.runs_count_by_receivers.Goals as goal

pub returns : goal.returns
returns start = runs_count_by_receivers
