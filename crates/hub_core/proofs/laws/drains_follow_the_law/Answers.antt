use Rattle.hub_core.proofs.Steps.Announces.{drains_in_law}
use Rattle.hub_core.proofs.laws.drains_follow_the_law.Goals as goal

pub returns : goal.returns
returns c = drains_in_law
