use Rattle.route_session.proofs.Computed.{refuses_in_order}
use Rattle.route_session.proofs.examples.refusals_come_in_order.Goals as goal

pub returns : goal.returns
returns c = refuses_in_order
