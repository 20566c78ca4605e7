use Rattle.shard_core.proofs.Turns.Claims.{claims_whole}
use Rattle.shard_core.proofs.queue_claim.claims_are_whole.Goals as goal

pub returns : goal.returns
returns c = claims_whole
