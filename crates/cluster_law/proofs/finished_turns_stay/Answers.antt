use Rattle.cluster_law.proofs.Kept.Growth.{turns_stay}
use Rattle.cluster_law.proofs.finished_turns_stay.Goals as goal

pub returns : goal.returns
returns c = λ k w es w' before r. turns_stay k w es w' before r
