use Rattle.std.proofs.Common.{◌≡◌, drop, map}
use Rattle.cluster_world.specs.InCode.{publication_of}
use Rattle.placement_audit.specs.InCode.{lent_life, placement_of}
use Rattle.placement_audit.specs.Tests.{any_due}
use Rattle.placement_audit.proofs.audits.any_due.Given as goal

-- the rest tells it
abbrev pub invariant-loop-life : goal.invariant-loop-life
invariant-loop-life l =
    any_due (publication_of l.source) (placement_of l.placement) (map lent_life (drop l.life-index l.lives))
    ≡ any_due (publication_of l.source) (placement_of l.placement) (map lent_life l.lives)
