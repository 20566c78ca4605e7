use Rattle.cluster_law.proofs.Kept.Whole.{reached, lines_of}
use Rattle.cluster_law.proofs.lines_are_in_order.Goals as goal

pub returns : goal.returns
returns c = λ k w r. lines_of k w (reached k w r)
