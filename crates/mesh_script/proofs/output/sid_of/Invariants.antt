use Rattle.std.proofs.Common.{◌≡◌, drop, map}
use Rattle.cluster_world.specs.InCode.{life_of, life_id_of}
use Rattle.world_law.specs.Written.{sid_of}
use Rattle.mesh_script.proofs.output.sid_of.Given as goal

-- among the rest the same one is found
abbrev pub invariant-loop-life : goal.invariant-loop-life
invariant-loop-life l =
    sid_of (map life_of (drop l.life-index l.lives)) (life_id_of l.id) ≡ sid_of (map life_of l.lives) (life_id_of l.id)
