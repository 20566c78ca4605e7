use Rattle.node_law.proofs.Moves.Nodes.{node_follows}
use Rattle.node_law.proofs.laws.servers_follow_the_law.Goals as goal

pub returns : goal.returns
returns start = node_follows
