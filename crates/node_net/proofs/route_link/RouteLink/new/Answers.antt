use Rattle.node_net.proofs.ReadingLemmas.{begins_at_once}
use Rattle.node_net.proofs.route_link.RouteLink.new.Goals as goal

pub returns : goal.returns
returns c = begins_at_once c.args.proof c.is_some.result c.cutter_of.result c.is_some.ensures c.cutter_of.ensures
