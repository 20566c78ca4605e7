use Rattle.node_law.proofs.Runs.EachShard.{shards_stay_held}
use Rattle.node_law.proofs.laws.shards_stay_held.Goals as goal

pub returns : goal.returns
returns start = shards_stay_held
