use Rattle.std.proofs.Common.{◌≡◌, drop, map}
use Rattle.placement_audit.specs.InCode.{lent_life, lent_publication, placement_of}
use Rattle.placement_audit.specs.Tests.{any_owed}
use Rattle.placement_audit.proofs.audits.any_owed.Given as goal

-- the rest tells it
abbrev pub invariant-loop-source : goal.invariant-loop-source
invariant-loop-source l =
    any_owed (placement_of l.placement) (map lent_life l.lives) (map lent_publication (drop l.source-index l.sources))
    ≡ any_owed (placement_of l.placement) (map lent_life l.lives) (map lent_publication l.sources)
