use Rattle.route_session.proofs.Computed.{dials_cross}
use Rattle.route_session.proofs.examples.crossed_dials_keep_one_session.Goals as goal

pub returns : goal.returns
returns c = dials_cross
