use Rattle.world_law.proofs.Examples.Printed.{all_runs}
use Rattle.world_law.proofs.laws.scripts_are_runs.Goals as goal

pub returns : goal.returns
returns c = all_runs c.every_list_is_a_run.ensures
