use Rattle.route_session.proofs.Best.{ends_agree}
use Rattle.route_session.proofs.laws.both_ends_keep_the_same.Goals as goal

pub returns : goal.returns
returns c = ends_agree
