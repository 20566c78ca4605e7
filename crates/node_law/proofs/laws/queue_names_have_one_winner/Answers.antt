use Rattle.node_law.proofs.Claims.OneWinner.{queue_names_have_one_winner}
use Rattle.node_law.proofs.laws.queue_names_have_one_winner.Goals as goal

pub returns : goal.returns
returns start = queue_names_have_one_winner
