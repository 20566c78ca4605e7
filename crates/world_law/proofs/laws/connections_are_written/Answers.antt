use Rattle.world_law.proofs.Examples.Printed.{writes_connections}
use Rattle.world_law.proofs.laws.connections_are_written.Goals as goal

pub returns : goal.returns
returns start = writes_connections
