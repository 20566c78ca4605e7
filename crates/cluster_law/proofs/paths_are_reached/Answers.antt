use Rattle.std.proofs.Common.{[], refl}
use Rattle.cluster_law.specs.Cluster.{begin}
use Rattle.cluster_law.proofs.Kept.Growth.{path_reached}
use Rattle.cluster_law.proofs.paths_are_reached.Goals as goal

pub returns : goal.returns
returns c = λ k ws p. path_reached k (begin k) ws (record { events = []; run = refl }) p
