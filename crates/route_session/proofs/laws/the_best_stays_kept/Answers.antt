use Rattle.route_session.proofs.OverRuns.{best_stays_kept}
use Rattle.route_session.proofs.laws.the_best_stays_kept.Goals as goal

pub returns : goal.returns
returns start = best_stays_kept
