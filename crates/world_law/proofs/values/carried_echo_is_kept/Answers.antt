use Rattle.std.proofs.Math.Logic.{∥∥₁_map}
use Rattle.world_law.proofs.values.carried_echo_is_kept.Goals as goal

pub returns : goal.returns
returns c = λ l set_up w s. ∥∥₁_map s (λ r. c.echo_is_kept.ensures l set_up r.0 w r.1)
