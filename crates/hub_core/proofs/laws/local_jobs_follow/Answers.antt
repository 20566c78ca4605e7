use Rattle.hub_core.proofs.Choices.Local.{local_jobs_follow}
use Rattle.hub_core.proofs.laws.local_jobs_follow.Goals as goal

pub returns : goal.returns
returns c = local_jobs_follow
