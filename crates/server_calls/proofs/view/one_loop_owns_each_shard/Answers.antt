use Rattle.server_calls.proofs.LoopLemmas.{one_owns}
use Rattle.server_calls.proofs.view.one_loop_owns_each_shard.Goals as goal

pub returns : goal.returns
returns c = one_owns
