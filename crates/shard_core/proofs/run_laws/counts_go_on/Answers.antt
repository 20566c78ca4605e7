use Rattle.shard_core.proofs.RunReceivers.{counts_go_on}
use Rattle.shard_core.proofs.run_laws.counts_go_on.Goals as goal

pub returns : goal.returns
returns start = counts_go_on
