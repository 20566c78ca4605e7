use Rattle.std.proofs.Common.{[], ◌++◌, append-nil, ap, ◌∙◌, subst}
use Rattle.std.specs.Prelude.{codes}
use Rattle.settled_law.specs.Tests.{settled_for}
use Rattle.mesh_script.specs.Asks.{NoMore, settled_asks, settled_line}
use Rattle.mesh_script.specs.Playing.{PlayState, Makes, Moves}
use Rattle.mesh_script.proofs.Moving.{makes_failed, breaks_first, moved_line}
use Rattle.mesh_script.proofs.Putting.{puts_behind, starts_of_puts, starts_same}
use Rattle.mesh_script.proofs.player.Player.tell_settled.Goals as goal

pub returns-in_err-flush_much-clause-makes : goal.returns-in_err-flush_much-clause-makes
returns-in_err-flush_much-clause-makes g c =
    let was = g.S.Sink.written c.args.sink.now in
    let is = g.S.Sink.written c.flush_much.new.sink in
    let old : PlayState = record {
      cluster = c.self.inside.world.cluster;
      world = c.self.inside.world.world;
      number = c.self.inside.number;
      text = c.self.inside.output;
    } in
    let new : PlayState = record {
      cluster = c.self.inside.world.cluster;
      world = c.self.inside.world.world;
      number = c.self.inside.number;
      text = c.flush_much.new.self;
    } in
    subst (λ (s : PlayState). Makes c.from_residual.result s was (settled_asks s.cluster c.args.subject.now) new is)
    c.self.view_is
    (makes_failed c.from_residual.result old new was is _ c.from_residual.ensures.0
    (breaks_first old was is _ (starts_same _ _ was is (append-nil old.text) c.in_err-flush_much.ensures.text)))

pub returns-in_err-put_settled-clause-makes : goal.returns-in_err-put_settled-clause-makes
returns-in_err-put_settled-clause-makes g c =
    let was = g.S.Sink.written c.args.sink.now in
    let is = g.S.Sink.written c.flush_much.new.sink in
    let old : PlayState = record {
      cluster = c.self.inside.world.cluster;
      world = c.self.inside.world.world;
      number = c.self.inside.number;
      text = c.self.inside.output;
    } in
    let new : PlayState = record {
      cluster = c.self.inside.world.cluster;
      world = c.self.inside.world.world;
      number = c.self.inside.number;
      text = c.put_settled.new.output;
    } in
    subst (λ (s : PlayState).
    Makes c.from_residual-in_err-put_settled.result s was (settled_asks s.cluster c.args.subject.now) new is)
    c.self.view_is
    (makes_failed c.from_residual-in_err-put_settled.result old new was is _
    c.from_residual-in_err-put_settled.ensures.0
    (breaks_first old was is _
    (starts_same _ _ was is (append-nil old.text)
    (starts_of_puts old.text [] c.flush_much.new.self was is c.in_ok-flush_much.ensures.text))))

pub returns-clause-makes : goal.returns-clause-makes
returns-clause-makes g c =
    let was = g.S.Sink.written c.args.sink.now in
    let is = g.S.Sink.written c.flush_much.new.sink in
    let old : PlayState = record {
      cluster = c.self.inside.world.cluster;
      world = c.self.inside.world.world;
      number = c.self.inside.number;
      text = c.self.inside.output;
    } in
    let text = c.put_settled.new.output in
    let puts = puts_behind old.text c.flush_much.new.self [] text _ was is c.in_ok-flush_much.ensures.text
    (c.in_ok-put_settled.ensures
    ∙ ap (λ b. c.flush_much.new.self ++ (settled_line b ++ codes "\n")) c.settled_for-settled.ensures.same) in
    subst
    (λ (s : PlayState). Moves s was (settled_asks s.cluster c.args.subject.now) NoMore (record old { text = text }) is)
    c.self.view_is
    (moved_line old text was is (λ w. settled_line (settled_for old.cluster w c.args.subject.now)) NoMore puts)
