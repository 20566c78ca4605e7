use Rattle.world_law.proofs.Runs.Counted.{publications_are_counted}
use Rattle.world_law.proofs.laws.publications_are_counted.Goals as goal

pub returns : goal.returns
returns start = publications_are_counted
