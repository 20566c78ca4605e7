use Rattle.cluster_law.proofs.Scripts.WithoutClaimRules.{member_is_needed}
use Rattle.cluster_law.proofs.member_is_needed.Goals as goal

pub returns : goal.returns
returns c = member_is_needed
