use Rattle.route_session.proofs.FirstBest.{best_is_kept}
use Rattle.route_session.proofs.laws.the_best_offer_is_kept.Goals as goal

pub returns : goal.returns
returns c = best_is_kept
