use Rattle.shard_core.proofs.Clients.Limits.{limits_stay}
use Rattle.shard_core.proofs.laws.limits_stay.Goals as goal

pub returns : goal.returns
returns start = limits_stay
