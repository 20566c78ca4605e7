use Rattle.world_law.proofs.Runs.OwnRuns.{each_has_run}
use Rattle.world_law.proofs.laws.each_server_ran.Goals as goal

pub returns : goal.returns
returns start = each_has_run
