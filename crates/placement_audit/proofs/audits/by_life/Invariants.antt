use Rattle.std.proofs.Common.{take, map}
use Rattle.cluster_world.specs.InCode.{life_of}
use Rattle.placement_audit.specs.Named.{AreLives}
use Rattle.placement_audit.proofs.audits.by_life.Given as goal

abbrev pub invariant-loop-life : goal.invariant-loop-life
invariant-loop-life l = AreLives l.named (map life_of (take l.life-index l.lives))
