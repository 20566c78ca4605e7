use Rattle.node_law.proofs.Moves.Nodes.{stays_sound}
use Rattle.node_law.proofs.laws.servers_stay_sound.Goals as goal

pub returns : goal.returns
returns start = stays_sound
