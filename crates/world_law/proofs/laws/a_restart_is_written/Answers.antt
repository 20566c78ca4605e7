use Rattle.world_law.proofs.Examples.Printed.{writes_a_restart}
use Rattle.world_law.proofs.laws.a_restart_is_written.Goals as goal

pub returns : goal.returns
returns start = writes_a_restart
