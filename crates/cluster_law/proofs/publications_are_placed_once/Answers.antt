use Rattle.cluster_law.proofs.Kept.Whole.{reached, headline_of}
use Rattle.cluster_law.proofs.publications_are_placed_once.Goals as goal

pub returns : goal.returns
returns c = λ k w r. headline_of k w (reached k w r)
