use Rattle.shard_core.proofs.Closings.Whys.{subs_stay_held}
use Rattle.shard_core.proofs.laws.subs_stay_held.Goals as goal

pub returns : goal.returns
returns start = subs_stay_held
