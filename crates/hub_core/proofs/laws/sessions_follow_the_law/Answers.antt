use Rattle.hub_core.proofs.Steps.Receives.{meets_in_law}
use Rattle.hub_core.proofs.laws.sessions_follow_the_law.Goals as goal

pub returns : goal.returns
returns c = meets_in_law
