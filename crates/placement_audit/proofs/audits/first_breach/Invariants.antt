use Rattle.std.proofs.Common.{List, map, take}
use Rattle.world_law.specs.State.{Publication, Life}
use Rattle.placement_audit.specs.InCode.{placement_of}
use Rattle.placement_audit.specs.Named.{AreLives, AreSources}
use Rattle.placement_audit.proofs.Walking.{Walked}
use Rattle.placement_audit.proofs.audits.first_breach.Given as goal

abbrev pub invariant-loop-place : goal.invariant-loop-place
invariant-loop-place l =
    (ps : List Publication) (ls : List Life)
    → AreSources l.sources ps
    → AreLives l.lives ls
    → Walked ps ls (map placement_of (take l.place l.placements)) l.seen
