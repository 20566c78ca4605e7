use Rattle.cluster_law.proofs.Scripts.WithoutFrameRules.{sent_is_needed}
use Rattle.cluster_law.proofs.sent_is_needed.Goals as goal

pub returns : goal.returns
returns c = sent_is_needed
