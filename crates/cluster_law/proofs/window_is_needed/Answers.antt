use Rattle.cluster_law.proofs.Scripts.WithoutClaimRules.{window_is_needed}
use Rattle.cluster_law.proofs.window_is_needed.Goals as goal

pub returns : goal.returns
returns c = window_is_needed
