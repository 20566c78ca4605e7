use Rattle.node_law.proofs.Claims.OneJob.{turns_have_one_job}
use Rattle.node_law.proofs.laws.turns_have_one_job.Goals as goal

pub returns : goal.returns
returns start = turns_have_one_job
