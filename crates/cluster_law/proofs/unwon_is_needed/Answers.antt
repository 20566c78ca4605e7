use Rattle.cluster_law.proofs.Scripts.WithoutClaimRules.{unwon_is_needed}
use Rattle.cluster_law.proofs.unwon_is_needed.Goals as goal

pub returns : goal.returns
returns c = unwon_is_needed
