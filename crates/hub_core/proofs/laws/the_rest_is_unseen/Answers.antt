use Rattle.hub_core.proofs.Steps.Receives.{cuts_unseen, takes_unseen}
use Rattle.hub_core.proofs.laws.the_rest_is_unseen.Goals as goal

pub returns-clause-cut : goal.returns-clause-cut
returns-clause-cut c = cuts_unseen

pub returns-clause-take : goal.returns-clause-take
returns-clause-take c = takes_unseen
