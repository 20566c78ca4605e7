use Rattle.cluster_law.proofs.Scripts.WithoutClaimRules.{once_is_needed}
use Rattle.cluster_law.proofs.once_is_needed.Goals as goal

pub returns : goal.returns
returns c = once_is_needed
