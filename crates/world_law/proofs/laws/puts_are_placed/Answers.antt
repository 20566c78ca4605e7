use Rattle.world_law.proofs.Runs.Plays.{puts_placed}
use Rattle.world_law.proofs.laws.puts_are_placed.Goals as goal

pub returns : goal.returns
returns c = puts_placed c.entries_are_put.ensures
