use Rattle.shard_core.proofs.Closings.Whys.{closes_by_cause}
use Rattle.shard_core.proofs.laws.subs_close_by_cause.Goals as goal

pub returns : goal.returns
returns start = closes_by_cause
