use Rattle.std.proofs.Common.{ap}
use Rattle.job_lane.proofs.Moves.{learns_all}
use Rattle.job_lane.proofs.steps.drain.Goals as goal

pub len_as-waiting-requires-clause-rule : goal.len_as-waiting-requires-clause-rule
len_as-waiting-requires-clause-rule g c = learns_all _ _ c.requires.both.0 c.requires.both.1

pub learn_as-requires-clause-rule : goal.learn_as-requires-clause-rule
learn_as-requires-clause-rule g c =
    let kept = c.loop-taken.invariant.1.3 in
    learns_all _ _ (ap (λ known. known.may_push) kept) (ap (λ known. known.may_pop) kept)
