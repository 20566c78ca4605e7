use Rattle.shard_core.proofs.Closings.Reasons.{closings_are_told}
use Rattle.shard_core.proofs.laws.closings_are_told.Goals as goal

pub returns : goal.returns
returns start = closings_are_told
