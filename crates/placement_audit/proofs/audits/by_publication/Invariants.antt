use Rattle.std.proofs.Common.{take, map}
use Rattle.cluster_world.specs.InCode.{publication_of}
use Rattle.placement_audit.specs.Named.{AreSources}
use Rattle.placement_audit.proofs.audits.by_publication.Given as goal

abbrev pub invariant-loop-publication : goal.invariant-loop-publication
invariant-loop-publication l = AreSources l.sources (map publication_of (take l.publication-index l.publications))
