use Rattle.std.proofs.Common.{◌+◌, drop, ap, sym, ◌∙◌, subst}
use Rattle.std.proofs.lemmas.List.{at_drop_more}
use Rattle.script_form.specs.declared.steps.Step.{Step}
use Rattle.mesh_script.specs.Asks.{NoMore, and_then, asks_for, step_wants, steps_ask}
use Rattle.mesh_script.specs.Playing.{Moves, BreaksOff}
use Rattle.mesh_script.proofs.Moving.{makes_failed, breaks_after, breaks_before, moves_on, moves_before}
use Rattle.mesh_script.proofs.player.make_all.Goals as goal

pub returns-in_err-make-clause-makes : goal.returns-in_err-make-clause-makes
returns-in_err-make-clause-makes g c =
    let l = c.args.player.now.cluster in
    let names = c.args.script.now.names in
    let items = c.steps-step-items.result.now in
    let i = c.loop-step.step-index in
    let x = c.step-item.result in
    let first = asks_for l (step_wants names x) in
    let tail = steps_ask l names (drop (i + 1) items) in
    let was = g.S.Sink.written c.args.sink.now in
    let is = g.S.Sink.written c.loop-step.sink in
    let now = g.S.Sink.written c.make.new.sink in
    let split = at_drop_more (steps_ask l names) items i x c.loop-step-test.true
    ∙ ap (λ (y : Step). and_then (asks_for l (step_wants names y)) tail) (sym c.step-item.is) in
    let moves = subst (λ rest. Moves c.args.player.now was (steps_ask l names items) rest c.loop-step.player is) split
    c.loop-step.invariant.moves in
    let broke = subst (λ cluster. BreaksOff c.loop-step.player is (asks_for cluster (step_wants names x)) now)
    c.loop-step.invariant.moves.cluster
    (subst (λ n. BreaksOff c.loop-step.player is (asks_for c.loop-step.player.cluster (step_wants n x)) now)
    c.names.ensures c.in_err-make.ensures.makes) in
    makes_failed _ c.args.player.now _ was now _ c.from_residual.ensures.0
    (subst (λ steps. BreaksOff c.args.player.now was (steps_ask l names steps) now) c.steps-step-items.ensures
    (breaks_after c.args.player.now c.loop-step.player was is now (steps_ask l names items) (and_then first tail) moves
    (breaks_before c.loop-step.player is now first tail broke)))

pub loop-step-preserved : goal.loop-step-preserved
loop-step-preserved g c =
    let l = c.args.player.now.cluster in
    let names = c.args.script.now.names in
    let items = c.steps-step-items.result.now in
    let i = c.loop-step.step-index in
    let x = c.step-item.result in
    let first = asks_for l (step_wants names x) in
    let tail = steps_ask l names (drop (i + 1) items) in
    let was = g.S.Sink.written c.args.sink.now in
    let is = g.S.Sink.written c.loop-step.sink in
    let now = g.S.Sink.written c.make.new.sink in
    let split = at_drop_more (steps_ask l names) items i x c.loop-step-test.true
    ∙ ap (λ (y : Step). and_then (asks_for l (step_wants names y)) tail) (sym c.step-item.is) in
    let moves = subst (λ rest. Moves c.args.player.now was (steps_ask l names items) rest c.loop-step.player is) split
    c.loop-step.invariant.moves in
    let made = subst
    (λ cluster. Moves c.loop-step.player is (asks_for cluster (step_wants names x)) NoMore c.make.new.self now)
    c.loop-step.invariant.moves.cluster
    (subst
    (λ n. Moves c.loop-step.player is (asks_for c.loop-step.player.cluster (step_wants n x)) NoMore c.make.new.self now)
    c.names.ensures c.in_ok-make.ensures.makes) in
    record {
      moves =
          moves_on c.args.player.now c.loop-step.player c.make.new.self was is now (steps_ask l names items)
          (and_then first tail) tail moves
          (moves_before c.loop-step.player c.make.new.self is now first NoMore tail made);
      failures = c.in_ok-make.ensures.failures ∙ c.loop-step.invariant.failures;
    }
