use Rattle.node_law.proofs.Outboxes.Known.{outboxes_are_known}
use Rattle.node_law.proofs.laws.outboxes_are_known.Goals as goal

pub returns : goal.returns
returns start = outboxes_are_known
