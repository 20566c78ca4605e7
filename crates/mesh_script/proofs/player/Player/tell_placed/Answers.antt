use Rattle.std.proofs.Common.{[], append-nil, subst}
use Rattle.mesh_script.specs.Asks.{NoMore, work_asks, delivered_line}
use Rattle.mesh_script.specs.Playing.{PlayState, Makes, Moves}
use Rattle.mesh_script.proofs.Moving.{makes_failed, breaks_first, moved_line}
use Rattle.mesh_script.proofs.Putting.{puts_behind, starts_of_puts, starts_same}
use Rattle.mesh_script.proofs.player.Player.tell_placed.Goals as goal

pub returns-in_err-flush_much-clause-makes : goal.returns-in_err-flush_much-clause-makes
returns-in_err-flush_much-clause-makes g c =
    let was = g.S.Sink.written c.args.sink.now in
    let is = g.S.Sink.written c.flush_much.new.sink in
    let old : PlayState = record {
      cluster = c.self.inside.world.cluster;
      world = c.self.inside.world.world;
      number = c.self.inside.number;
      text = c.self.inside.output;
    } in
    let new : PlayState = record {
      cluster = c.self.inside.world.cluster;
      world = c.self.inside.world.world;
      number = c.self.inside.number;
      text = c.flush_much.new.self;
    } in
    subst (λ (s : PlayState). Makes c.from_residual.result s was (work_asks [] c.args.placed) new is) c.self.view_is
    (makes_failed c.from_residual.result old new was is _ c.from_residual.ensures.0
    (breaks_first old was is _ (starts_same _ _ was is (append-nil old.text) c.in_err-flush_much.ensures.text)))

pub returns-in_err-put_delivered-clause-makes : goal.returns-in_err-put_delivered-clause-makes
returns-in_err-put_delivered-clause-makes g c =
    let was = g.S.Sink.written c.args.sink.now in
    let is = g.S.Sink.written c.flush_much.new.sink in
    let old : PlayState = record {
      cluster = c.self.inside.world.cluster;
      world = c.self.inside.world.world;
      number = c.self.inside.number;
      text = c.self.inside.output;
    } in
    let new : PlayState = record {
      cluster = c.self.inside.world.cluster;
      world = c.self.inside.world.world;
      number = c.self.inside.number;
      text = c.put_delivered.new.output;
    } in
    subst
    (λ (s : PlayState). Makes c.from_residual-in_err-put_delivered.result s was (work_asks [] c.args.placed) new is)
    c.self.view_is
    (makes_failed c.from_residual-in_err-put_delivered.result old new was is _
    c.from_residual-in_err-put_delivered.ensures.0
    (breaks_first old was is _
    (starts_same _ _ was is (append-nil old.text)
    (starts_of_puts old.text [] c.flush_much.new.self was is c.in_ok-flush_much.ensures.text))))

pub returns-clause-makes : goal.returns-clause-makes
returns-clause-makes g c =
    let was = g.S.Sink.written c.args.sink.now in
    let is = g.S.Sink.written c.flush_much.new.sink in
    let old : PlayState = record {
      cluster = c.self.inside.world.cluster;
      world = c.self.inside.world.world;
      number = c.self.inside.number;
      text = c.self.inside.output;
    } in
    let text = c.put_delivered.new.output in
    let puts = puts_behind old.text c.flush_much.new.self [] text _ was is c.in_ok-flush_much.ensures.text
    c.in_ok-put_delivered.ensures in
    subst (λ (s : PlayState). Moves s was (work_asks [] c.args.placed) NoMore (record old { text = text }) is)
    c.self.view_is (moved_line old text was is (λ w. delivered_line c.args.placed) NoMore puts)
