use Rattle.std.proofs.Math.Logic.{∥∥₁_map}
use Rattle.world_law.proofs.values.carried_names_are_unique.Goals as goal

pub returns : goal.returns
returns c = λ l set_up w s. ∥∥₁_map s (λ r. c.names_are_unique.ensures l set_up r.0 w r.1)
