use Rattle.std.proofs.Common.{ap, sym, ◌∙◌, subst}
use Rattle.claim_cells.specs.Steps.{finished_one}
use Rattle.claim_cells.specs.Seats.{HasTurn}
use Rattle.claim_cells.proofs.SeatSteps.Many.{has_more, one_more_finished}
use Rattle.claim_cells.proofs.cells.Cells.finish_many.Goals as goal

pub finish-requires-clause-turn : goal.finish-requires-clause-turn
finish-requires-clause-turn c =
    let l = c.loop-turn in
    subst HasTurn (sym l.invariant.1)
    (has_more c.args.seat.now.part l._turn c.args.turns c.loop-turn-test.true c.requires.seen)

pub loop-turn-preserved : goal.loop-turn-preserved
loop-turn-preserved c =
    let l = c.loop-turn in (
      c.finish.ensures.race ∙ l.invariant.0,
      c.finish.ensures.part ∙ ap finished_one l.invariant.1 ∙ one_more_finished c.args.seat.now.part l._turn,
    )
