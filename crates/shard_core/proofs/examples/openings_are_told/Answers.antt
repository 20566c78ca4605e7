use Rattle.shard_core.proofs.Steps.Examples.{tells_once}
use Rattle.shard_core.proofs.examples.openings_are_told.Goals as goal

pub returns : goal.returns
returns c = tells_once
