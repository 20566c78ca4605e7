use Rattle.shard_core.proofs.Clients.Limits.{numbers_tell_shards}
use Rattle.shard_core.proofs.laws.numbers_tell_shards.Goals as goal

pub returns : goal.returns
returns start = numbers_tell_shards
