use Rattle.shard_core.proofs.Clients.Outboxes.{are_put}
use Rattle.shard_core.proofs.laws.entries_are_put.Goals as goal

pub returns : goal.returns
returns start = are_put
