use Rattle.std.proofs.Math.Logic.{∥∥₁_map}
use Rattle.world_law.proofs.values.carried_frames_were_sent.Goals as goal

pub returns : goal.returns
returns c = λ l w s. ∥∥₁_map s (λ r. c.taken_frames_were_sent.ensures l r.0 w r.1)
