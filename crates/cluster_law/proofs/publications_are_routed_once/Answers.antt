use Rattle.cluster_law.proofs.Kept.Whole.{reached, routing_of}
use Rattle.cluster_law.proofs.publications_are_routed_once.Goals as goal

pub returns : goal.returns
returns c = λ k w r. routing_of k w (reached k w r)
