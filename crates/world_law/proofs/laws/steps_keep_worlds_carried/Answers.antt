use Rattle.std.proofs.Common.{[], ◌∷◌, ◌++◌}
use Rattle.std.proofs.Math.Logic.{∥∥₁_map}
use Rattle.world_law.specs.State.{new_world}
use Rattle.world_law.proofs.Runs.Programs.{one_more}
use Rattle.world_law.proofs.laws.steps_keep_worlds_carried.Goals as goal

pub returns : goal.returns
returns start =
    λ l w e outcome w' step s. ∥∥₁_map s (λ r. (r.0 ++ e ∷ [], one_more l (new_world l) r.0 w e outcome w' r.1 step))
