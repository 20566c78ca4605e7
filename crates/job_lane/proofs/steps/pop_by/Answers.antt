use Rattle.std.proofs.Common.{ap}
use Rattle.job_lane.proofs.Moves.{came, pops, still_popping}
use Rattle.job_lane.proofs.steps.pop_by.Goals as goal

pub pop_as-requires-clause-rule : goal.pop_as-requires-clause-rule
pop_as-requires-clause-rule g c = (
  pops _ _ (ap (λ known. known.may_pop) c.requires.popping.alone),
  λ waiting passes holds at. tt,
)

pub returns-clause-popping : goal.returns-clause-popping
returns-clause-popping g c = still_popping c.pop_as.result _ _ _ c.requires.popping c.pop_as.ensures.rule

pub returns-clause-came : goal.returns-clause-came
returns-clause-came g c = came c.pop_as.result _ _ _ c.pop_as.ensures.rule
