use Rattle.world_law.proofs.Examples.Scripts.{a_full_window_refuses_publishes}
use Rattle.world_law.proofs.laws.a_full_window_refuses_publishes.Goals as goal

pub returns : goal.returns
returns start = a_full_window_refuses_publishes
