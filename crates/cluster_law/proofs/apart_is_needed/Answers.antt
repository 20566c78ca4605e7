use Rattle.cluster_law.proofs.Scripts.WithoutFrameRules.{apart_is_needed}
use Rattle.cluster_law.proofs.apart_is_needed.Goals as goal

pub returns : goal.returns
returns c = apart_is_needed
