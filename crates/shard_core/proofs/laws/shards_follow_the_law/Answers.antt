use Rattle.shard_core.proofs.Steps.LawEvents.{shards_follow_the_law}
use Rattle.shard_core.proofs.laws.shards_follow_the_law.Goals as goal

pub returns : goal.returns
returns start = shards_follow_the_law
