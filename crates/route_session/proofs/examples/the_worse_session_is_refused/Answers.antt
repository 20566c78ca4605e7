use Rattle.route_session.proofs.Computed.{keeps_the_better}
use Rattle.route_session.proofs.examples.the_worse_session_is_refused.Goals as goal

pub returns : goal.returns
returns c = keeps_the_better
