use Rattle.shard_core.proofs.ClaimRuns.{claimed_one}
use Rattle.shard_core.proofs.claim_laws.claims_are_steps.Goals as goal

pub returns : goal.returns
returns start = claimed_one
