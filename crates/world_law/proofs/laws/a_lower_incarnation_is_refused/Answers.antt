use Rattle.world_law.proofs.Examples.Scripts.{a_lower_incarnation_is_refused}
use Rattle.world_law.proofs.laws.a_lower_incarnation_is_refused.Goals as goal

pub returns : goal.returns
returns start = a_lower_incarnation_is_refused
