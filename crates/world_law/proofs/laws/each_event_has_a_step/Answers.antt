use Rattle.world_law.proofs.Runs.Plays.{has_step}
use Rattle.world_law.proofs.laws.each_event_has_a_step.Goals as goal

pub returns : goal.returns
returns c = has_step c.entries_are_put.ensures
