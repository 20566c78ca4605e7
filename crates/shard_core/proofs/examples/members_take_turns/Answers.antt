use Rattle.shard_core.proofs.Steps.Examples.{chooses_by_turn}
use Rattle.shard_core.proofs.examples.members_take_turns.Goals as goal

pub returns : goal.returns
returns c = chooses_by_turn
