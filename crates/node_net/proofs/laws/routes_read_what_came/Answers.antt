use Rattle.node_net.proofs.RouteLifeLemmas.{frames_are_those_that_came}
use Rattle.node_net.proofs.laws.routes_read_what_came.Goals as goal

pub returns : goal.returns
returns c = frames_are_those_that_came
