use Rattle.shard_core.proofs.ClaimRooms.{rooms_go_on}
use Rattle.shard_core.proofs.claim_laws.rooms_go_on.Goals as goal

pub returns : goal.returns
returns start = rooms_go_on
