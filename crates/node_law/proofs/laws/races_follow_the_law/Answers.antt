use Rattle.node_law.proofs.Claims.Winners.{races_follow_the_law}
use Rattle.node_law.proofs.laws.races_follow_the_law.Goals as goal

pub returns : goal.returns
returns start = races_follow_the_law
