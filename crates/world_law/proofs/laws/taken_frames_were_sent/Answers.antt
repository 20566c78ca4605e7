use Rattle.world_law.proofs.Runs.Sent.{are_sent}
use Rattle.world_law.proofs.laws.taken_frames_were_sent.Goals as goal

pub returns : goal.returns
returns start = are_sent
