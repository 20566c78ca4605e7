use Rattle.cluster_law.proofs.Scripts.WithoutFrameRules.{addressee_is_needed}
use Rattle.cluster_law.proofs.addressee_is_needed.Goals as goal

pub returns : goal.returns
returns c = addressee_is_needed
