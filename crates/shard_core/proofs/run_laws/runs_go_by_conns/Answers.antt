use Rattle.shard_core.proofs.RunReceivers.{runs_go_by_conns}
use Rattle.shard_core.proofs.run_laws.runs_go_by_conns.Goals as goal

pub returns : goal.returns
returns start = runs_go_by_conns
