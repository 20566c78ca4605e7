use Rattle.hub_core.proofs.Steps.Announces.{announces_in_law}
use Rattle.hub_core.proofs.laws.collects_follow_the_law.Goals as goal

pub returns : goal.returns
returns c = announces_in_law
