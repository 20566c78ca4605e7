use Rattle.std.proofs.Common.{ap}
use Rattle.job_lane.proofs.Moves.{pushes, learns_end, still_pushing, came_back}
use Rattle.job_lane.proofs.steps.push_by.Goals as goal

pub push_as-requires-clause-rule : goal.push_as-requires-clause-rule
push_as-requires-clause-rule g c =
    let may = ap (λ known. known.may_push) c.requires.pushing.alone in
    (pushes _ _ _ c.args.run may c.requires.turns, learns_end _ _ may)

pub returns-clause-pushing : goal.returns-clause-pushing
returns-clause-pushing g c =
    still_pushing c.push_as.result _ _ _ _ c.requires.pushing c.requires.some c.requires.turns c.push_as.ensures.rule

pub returns-clause-err : goal.returns-clause-err
returns-clause-err g c = came_back c.push_as.result _ _ _ _ c.requires.pushing c.requires.some c.push_as.ensures.rule
