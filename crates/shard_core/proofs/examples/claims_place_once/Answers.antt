use Rattle.shard_core.proofs.Steps.Examples.{claims_once}
use Rattle.shard_core.proofs.examples.claims_place_once.Goals as goal

pub returns : goal.returns
returns c = claims_once
