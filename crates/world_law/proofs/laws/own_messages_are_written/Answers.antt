use Rattle.world_law.proofs.Examples.Printed.{writes_own_messages}
use Rattle.world_law.proofs.laws.own_messages_are_written.Goals as goal

pub returns : goal.returns
returns start = writes_own_messages
