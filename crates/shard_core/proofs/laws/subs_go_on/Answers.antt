use Rattle.shard_core.proofs.Closings.Reasons.{subs_go_on}
use Rattle.shard_core.proofs.laws.subs_go_on.Goals as goal

pub returns : goal.returns
returns start = subs_go_on
