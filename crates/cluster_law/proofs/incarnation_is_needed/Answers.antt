use Rattle.cluster_law.proofs.Scripts.WithoutFrameRules.{incarnation_is_needed}
use Rattle.cluster_law.proofs.incarnation_is_needed.Goals as goal

pub returns : goal.returns
returns c = incarnation_is_needed
