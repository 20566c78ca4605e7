use Rattle.cluster_law.proofs.Scripts.WithoutClaimRules.{fresh_is_needed}
use Rattle.cluster_law.proofs.fresh_is_needed.Goals as goal

pub returns : goal.returns
returns c = fresh_is_needed
