use Rattle.job_lane.proofs.Moves.{pops, learns_all}
use Rattle.job_lane.proofs.steps.move_first.Goals as goal

pub pop_as-requires-clause-rule : goal.pop_as-requires-clause-rule
pop_as-requires-clause-rule g c = (
  pops _ _ c.requires.both.1,
  learns_all _ _ c.requires.both.0 c.requires.both.1,
)
