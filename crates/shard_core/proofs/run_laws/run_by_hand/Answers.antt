use Rattle.shard_core.proofs.RunExample.{run_by_hand}
use Rattle.shard_core.proofs.run_laws.run_by_hand.Goals as goal

pub returns : goal.returns
returns start = run_by_hand
