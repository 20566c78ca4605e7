use Rattle.std.proofs.Common.{◌+◌, drop, map, ap, sym, ◌∙◌, subst, [], ◌∷◌, arith}
use Rattle.std.proofs.lemmas.List.{at_drop_more, drop_all}
use Rattle.cluster_world.specs.declared.events.Event.{Event}
use Rattle.cluster_world.specs.InCode.{event_of, outcome_of}
use Rattle.world_law.specs.Events as asked
use Rattle.mesh_script.specs.Counted.{placed_by}
use Rattle.mesh_script.specs.Asks.{work_asks}
use Rattle.mesh_script.specs.Playing.{Moves}
use Rattle.mesh_script.proofs.Moving.{makes_failed, makes_on, breaks_after, breaks_first, moves_on}
use Rattle.mesh_script.proofs.player.Player.work.Goals as goal

pub loop-event-preserved : goal.loop-event-preserved
loop-event-preserved g c =
    let items = c.args.events.now in
    let i = c.loop-event.event-index in
    let x = c.event-item.result in
    let placed = c.loop-event.placed in
    let outcome = outcome_of c.in_ok-outcome.outcome in
    let was = g.S.Sink.written c.args.sink.now in
    let is = g.S.Sink.written c.loop-event.sink in
    let now = g.S.Sink.written c.ask.new.sink in
    let rest = map event_of (drop (i + 1) items) in
    let split = at_drop_more (λ l. work_asks (map event_of l) placed) items i x c.loop-event-test.true
    ∙ ap (λ (y : Event). work_asks (event_of y ∷ rest) placed) (sym c.event-item.is) in
    let moves = subst (λ asks. Moves c.args.self.now was (work_asks (map event_of items) 0) asks c.loop-event.self is)
    split c.loop-event.invariant.moves in
    let made = c.in_ok-outcome.ensures.asks (λ w o. work_asks rest (placed + placed_by o)) in
    let sum = c.in-Some.ensures.1 ∙ ap (λ k. placed + k) c.placed_by.ensures in
    record {
      moves =
          moves_on c.args.self.now c.loop-event.self c.ask.new.self was is now _ _ _ moves
          (subst
          (λ k. Moves c.loop-event.self is (work_asks (event_of x ∷ rest) placed) (work_asks rest k) c.ask.new.self now)
          (sym sum) made);
      failures = c.in_ok-outcome.ensures.failures ∙ c.loop-event.invariant.failures;
    }

pub returns-in_err-outcome-clause-makes : goal.returns-in_err-outcome-clause-makes
returns-in_err-outcome-clause-makes g c =
    let items = c.args.events.now in
    let was = g.S.Sink.written c.args.sink.now in
    let is = g.S.Sink.written c.loop-event.sink in
    let now = g.S.Sink.written c.ask.new.sink in
    makes_failed _ c.args.self.now _ was now _ c.from_residual.ensures.0
    (breaks_after c.args.self.now c.loop-event.self was is now (work_asks (map event_of items) 0) _
    c.loop-event.invariant.moves (breaks_first c.loop-event.self is now _ c.in_err-outcome.ensures.asks))

-- more messages than can be counted
pub returns-in_default-clause-makes : goal.returns-in_default-clause-makes
returns-in_default-clause-makes g c =
    let items = c.args.events.now in
    let i = c.loop-event.event-index in
    let x = c.event-item.result in
    let placed = c.loop-event.placed in
    let was = g.S.Sink.written c.args.sink.now in
    let is = g.S.Sink.written c.loop-event.sink in
    let now = g.S.Sink.written c.ask.new.sink in
    let rest = map event_of (drop (i + 1) items) in
    let split = at_drop_more (λ l. work_asks (map event_of l) placed) items i x c.loop-event-test.true
    ∙ ap (λ (y : Event). work_asks (event_of y ∷ rest) placed) (sym c.event-item.is) in
    let moves = subst (λ asks. Moves c.args.self.now was (work_asks (map event_of items) 0) asks c.loop-event.self is)
    split c.loop-event.invariant.moves in
    record {
      rest = work_asks rest (placed + placed_by (outcome_of c.in_ok-outcome.outcome));
      new = c.ask.new.self;
      moves =
          moves_on c.args.self.now c.loop-event.self c.ask.new.self was is now _ _ _ moves
          (c.in_ok-outcome.ensures.asks (λ w o. work_asks rest (placed + placed_by o)));
    }

pub returns-clause-makes : goal.returns-clause-makes
returns-clause-makes g c =
    let items = c.args.events.now in
    let placed = c.loop-event.placed in
    let was = g.S.Sink.written c.args.sink.now in
    let is = g.S.Sink.written c.loop-event.sink in
    let moves = subst (λ l.
    Moves c.args.self.now was (work_asks (map event_of items) 0) (work_asks (map event_of l) placed) c.loop-event.self
    is)
    (drop_all c.loop-event.event-index items
    (omega (arith, c.loop-event-test.false, c.loop-event.auto.event-index-end)))
    c.loop-event.invariant.moves in
    makes_on c.tell_placed.result c.args.self.now c.loop-event.self c.tell_placed.new.self was is _
    (work_asks (map event_of items) 0) (work_asks [] placed) moves c.tell_placed.ensures.makes
