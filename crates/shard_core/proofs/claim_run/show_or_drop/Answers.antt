use Rattle.shard_core.proofs.ClaimNext.{can_count_one}
use Rattle.shard_core.proofs.claim_run.show_or_drop.Goals as goal

pub count-requires : goal.count-requires
count-requires g c = can_count_one _ _ c.requires
