use Rattle.cluster_law.proofs.Scripts.WithoutFrameRules.{mark_is_needed}
use Rattle.cluster_law.proofs.mark_is_needed.Goals as goal

pub returns : goal.returns
returns c = mark_is_needed
