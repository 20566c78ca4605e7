use Rattle.world_law.proofs.Examples.Printed.{writes_a_stale_message}
use Rattle.world_law.proofs.laws.a_stale_message_is_written.Goals as goal

pub returns : goal.returns
returns start = writes_a_stale_message
