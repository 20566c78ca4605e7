use Rattle.hub_core.proofs.Steps.Receives.{receives_in_law}
use Rattle.hub_core.proofs.laws.receives_follow_the_law.Goals as goal

pub returns : goal.returns
returns c = receives_in_law
