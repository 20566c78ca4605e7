use Rattle.cluster_law.proofs.Scripts.WithoutFrameRules.{next_is_needed}
use Rattle.cluster_law.proofs.next_is_needed.Goals as goal

pub returns : goal.returns
returns c = next_is_needed
