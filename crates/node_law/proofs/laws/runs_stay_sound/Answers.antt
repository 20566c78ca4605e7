use Rattle.node_law.proofs.Runs.Sound.{run_sound}
use Rattle.node_law.proofs.laws.runs_stay_sound.Goals as goal

pub returns : goal.returns
returns start = run_sound
