use Rattle.shard_core.proofs.Closings.Leaving.{room_decides}
use Rattle.shard_core.proofs.laws.room_decides.Goals as goal

pub returns : goal.returns
returns start = room_decides
