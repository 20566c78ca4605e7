use Rattle.cluster_law.proofs.Kept.Growth.{one_more_reached}
use Rattle.cluster_law.proofs.steps_reach.Goals as goal

pub returns : goal.returns
returns c = λ k w w' e r s. one_more_reached k w w' e r s
