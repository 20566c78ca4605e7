use Rattle.world_law.proofs.Examples.Printed.{writes_crossed_dials}
use Rattle.world_law.proofs.laws.crossed_dials_are_written.Goals as goal

pub returns : goal.returns
returns start = writes_crossed_dials
