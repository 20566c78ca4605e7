use Rattle.route_session.proofs.BestStays.{info_keeps_best, connect_keeps_best}
use Rattle.route_session.proofs.laws.the_better_session_stays.Goals as goal

pub returns-clause-info : goal.returns-clause-info
returns-clause-info c = info_keeps_best

pub returns-clause-connect : goal.returns-clause-connect
returns-clause-connect c = connect_keeps_best
