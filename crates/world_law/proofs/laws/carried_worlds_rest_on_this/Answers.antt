use Rattle.std.proofs.Math.Logic.{∥∥₁_map}
use Rattle.world_law.proofs.laws.carried_worlds_rest_on_this.Goals as goal

pub returns : goal.returns
returns c = λ l set_up w s. ∥∥₁_map s (λ r. (r.0, r.1, c.it_rests_on_this.ensures l set_up r.0 w r.1))
