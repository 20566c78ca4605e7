use Rattle.shard_core.proofs.RunEntries.{entries_go_on}
use Rattle.shard_core.proofs.run_laws.entries_go_on.Goals as goal

pub returns : goal.returns
returns start = entries_go_on
