use Rattle.world_law.proofs.Examples.Printed.{writes_starts_and_stops}
use Rattle.world_law.proofs.laws.starts_and_stops_are_written.Goals as goal

pub returns : goal.returns
returns start = writes_starts_and_stops
