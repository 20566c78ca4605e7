use Rattle.shard_core.proofs.Runs.{runs_are_worked}
use Rattle.shard_core.proofs.run_laws.runs_are_worked.Goals as goal

pub returns : goal.returns
returns start = runs_are_worked
