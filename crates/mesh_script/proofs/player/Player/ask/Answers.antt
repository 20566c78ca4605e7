use Rattle.std.proofs.Common.{subst}
use Rattle.cluster_world.specs.InCode.{event_of, outcome_of}
use Rattle.mesh_script.specs.Asks.{Ask}
use Rattle.mesh_script.specs.Playing.{PlayState, Moves}
use Rattle.mesh_script.proofs.Moving.{moved_one}
use Rattle.mesh_script.proofs.Putting.{puts_behind}
use Rattle.mesh_script.proofs.player.Player.ask.Goals as goal

pub returns-clause-asks : goal.returns-clause-asks
returns-clause-asks g c = λ more.
    let e = event_of c.args.event.now in
    let outcome = outcome_of c.in_ok-outcome.outcome in
    let was = g.S.Sink.written c.args.sink.now in
    let is = g.S.Sink.written c.flush_much.new.sink in
    let old : PlayState = record {
      cluster = c.self.inside.world.cluster;
      world = c.self.inside.world.world;
      number = c.self.inside.number;
      text = c.self.inside.output;
    } in
    let new : PlayState = record {
      cluster = c.step.new.self.cluster;
      world = c.step.new.self.world;
      number = c.in-Some.number;
      text = c.put_line.new.output;
    } in
    let puts = puts_behind old.text c.flush_much.new.self _ new.text _ was is c.in_ok-flush_much.ensures.text
    c.in_ok-put_line.ensures in
    subst (λ (s : PlayState). Moves s was (Ask e more) (more s.world outcome) new is) c.self.view_is
    (moved_one old new was is e outcome c.in_ok-outcome.ensures.ok.cluster c.in_ok-outcome.ensures.ok.step
    c.in-Some.ensures.1 puts more)
