use Rattle.world_law.proofs.Seen.Order.{placements_are_one}
use Rattle.world_law.proofs.laws.placements_are_one.Goals as goal

pub returns : goal.returns
returns start = placements_are_one
