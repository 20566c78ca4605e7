use Rattle.hub_core.proofs.Steps.Publishes.{publishes_in_law}
use Rattle.hub_core.proofs.laws.publishes_follow_the_law.Goals as goal

pub returns : goal.returns
returns c = publishes_in_law
