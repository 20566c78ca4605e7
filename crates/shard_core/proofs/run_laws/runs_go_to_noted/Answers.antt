use Rattle.shard_core.proofs.RunNoted.{runs_go_to_noted}
use Rattle.shard_core.proofs.run_laws.runs_go_to_noted.Goals as goal

pub returns : goal.returns
returns start = runs_go_to_noted
