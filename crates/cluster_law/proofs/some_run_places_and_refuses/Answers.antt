use Rattle.cluster_law.proofs.Scripts.Example.{witness}
use Rattle.cluster_law.proofs.some_run_places_and_refuses.Goals as goal

pub returns : goal.returns
returns c = witness
