use Rattle.std.proofs.Common.{Err, Ok, refl, subst}
use Rattle.mesh_script.specs.Asks.{NoMore, steps_ask}
use Rattle.mesh_script.specs.Playing.{PlayState, Moves, BreaksOff, Finishes}
use Rattle.mesh_script.proofs.Alike.{fails_alike}
use Rattle.mesh_script.proofs.Moving.{breaks_unmoved}
use Rattle.mesh_script.proofs.Putting.{write_failed}
use Rattle.mesh_script.proofs.Wholes.{broken_play, whole_play}
use Rattle.mesh_script.proofs.player.play.Goals as goal

pub returns-in_err-player-clause-text : goal.returns-in_err-player-clause-text
returns-in_err-player-clause-text g c =
    broken_play _ c.args.script.now _ _ c.plays_go_on.ensures c.plays_are_safe.ensures c.shards-many.ensures.cluster
    c.from_residual.ensures.0 (breaks_unmoved _ _ _)

pub returns-in_err-make_all-clause-text : goal.returns-in_err-make_all-clause-text
returns-in_err-make_all-clause-text g c =
    let script = c.args.script.now in
    let was = g.S.Sink.written c.args.sink.now in
    let is = g.S.Sink.written c.make_all.new.sink in
    broken_play _ script was is c.plays_go_on.ensures c.plays_are_safe.ensures c.shards-many.ensures.cluster
    c.from_residual-in_err-make_all.ensures.0
    (subst (λ (s : PlayState). BreaksOff s was (steps_ask s.cluster script.names script.steps) is)
    c.in_ok-player.ensures c.in_err-make_all.ensures.makes)

pub returns-in_err-finish-clause-text : goal.returns-in_err-finish-clause-text
returns-in_err-finish-clause-text g c =
    let script = c.args.script.now in
    let was = g.S.Sink.written c.args.sink.now in
    let is = g.S.Sink.written c.make_all.new.sink in
    let now = g.S.Sink.written c.finish.new.sink in
    let failed = subst (λ n. Finishes {T = Unit {0}} (Err c.in_err-finish.field-0.0) n c.make_all.new.player is now)
    c.names.ensures c.in_err-finish.ensures.text in
    whole_play _ script c.make_all.new.player was is now c.plays_are_safe.ensures c.shards-many.ensures.cluster
    (subst
    (λ (s : PlayState). Moves s was (steps_ask s.cluster script.names script.steps) NoMore c.make_all.new.player is)
    c.in_ok-player.ensures c.in_ok-make_all.ensures.makes)
    (λ step. write_failed _ is now _ c.from_residual-in_err-finish.ensures.0 (failed step))

pub returns-clause-text : goal.returns-clause-text
returns-clause-text g c =
    let script = c.args.script.now in
    let was = g.S.Sink.written c.args.sink.now in
    let is = g.S.Sink.written c.make_all.new.sink in
    let now = g.S.Sink.written c.finish.new.sink in
    whole_play _ script c.make_all.new.player was is now c.plays_are_safe.ensures c.shards-many.ensures.cluster
    (subst
    (λ (s : PlayState). Moves s was (steps_ask s.cluster script.names script.steps) NoMore c.make_all.new.player is)
    c.in_ok-player.ensures c.in_ok-make_all.ensures.makes)
    (subst (λ n. Finishes (Ok c.in_ok-finish.field-0) n c.make_all.new.player is now) c.names.ensures
    c.in_ok-finish.ensures.text)

pub returns-in_err-make_all-clause-failures : goal.returns-in_err-make_all-clause-failures
returns-in_err-make_all-clause-failures g c =
    fails_alike (Unit {0}) _ c.in_err-make_all.field-0.0 _ _ _ c.from_residual-in_err-make_all.ensures.1
    c.in_err-make_all.ensures.failures refl

pub returns-in_err-finish-clause-failures : goal.returns-in_err-finish-clause-failures
returns-in_err-finish-clause-failures g c =
    fails_alike (Unit {0}) _ c.in_err-finish.field-0.0 _ _ _ c.from_residual-in_err-finish.ensures.1
    c.in_err-finish.ensures.failures c.in_ok-make_all.ensures.failures
