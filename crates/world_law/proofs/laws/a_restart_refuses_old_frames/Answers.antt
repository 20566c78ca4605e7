use Rattle.world_law.proofs.Examples.Scripts.{a_restart_refuses_old_frames}
use Rattle.world_law.proofs.laws.a_restart_refuses_old_frames.Goals as goal

pub returns : goal.returns
returns start = a_restart_refuses_old_frames
