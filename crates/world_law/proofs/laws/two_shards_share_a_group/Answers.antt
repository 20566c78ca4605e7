use Rattle.world_law.proofs.Examples.Scripts.{two_shards_share_a_group}
use Rattle.world_law.proofs.laws.two_shards_share_a_group.Goals as goal

pub returns : goal.returns
returns start = two_shards_share_a_group
