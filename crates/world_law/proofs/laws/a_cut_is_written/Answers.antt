use Rattle.world_law.proofs.Examples.Printed.{writes_a_cut}
use Rattle.world_law.proofs.laws.a_cut_is_written.Goals as goal

pub returns : goal.returns
returns start = writes_a_cut
