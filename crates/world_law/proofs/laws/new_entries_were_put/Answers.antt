use Rattle.world_law.proofs.Seen.Given.{entries_of_step}
use Rattle.world_law.proofs.laws.new_entries_were_put.Goals as goal

pub returns : goal.returns
returns c = entries_of_step c.entries_are_put.ensures
