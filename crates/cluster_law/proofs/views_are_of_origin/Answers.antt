use Rattle.cluster_law.proofs.Kept.Whole.{reached, views_of}
use Rattle.cluster_law.proofs.views_are_of_origin.Goals as goal

pub returns : goal.returns
returns c = λ k w r. views_of k w (reached k w r)
