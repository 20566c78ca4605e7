use Rattle.cluster_law.proofs.Scripts.WithoutFrameRules.{origin_is_needed}
use Rattle.cluster_law.proofs.origin_is_needed.Goals as goal

pub returns : goal.returns
returns c = origin_is_needed
