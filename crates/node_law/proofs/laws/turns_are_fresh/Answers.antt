use Rattle.node_law.proofs.Claims.OneWinner.{turns_are_fresh}
use Rattle.node_law.proofs.laws.turns_are_fresh.Goals as goal

pub returns : goal.returns
returns start = turns_are_fresh
