use Rattle.cluster_law.proofs.Scripts.WithoutFrameRules.{one_frame_is_needed}
use Rattle.cluster_law.proofs.one_frame_is_needed.Goals as goal

pub returns : goal.returns
returns c = one_frame_is_needed
