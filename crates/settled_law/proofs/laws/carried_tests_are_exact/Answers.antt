use Rattle.std.proofs.Math.Logic.{∥∥₁_map}
use Rattle.settled_law.proofs.laws.carried_tests_are_exact.Goals as goal

pub returns : goal.returns
returns x c cluster w carried = ∥∥₁_map carried (λ r. x.tests_are_exact.ensures.settled c cluster r.0 w r.1)
