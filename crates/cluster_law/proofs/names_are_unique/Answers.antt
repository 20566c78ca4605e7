use Rattle.cluster_law.proofs.Kept.Whole.{reached, unique_of}
use Rattle.cluster_law.proofs.names_are_unique.Goals as goal

pub returns : goal.returns
returns c = λ k w r. unique_of k w (reached k w r)
