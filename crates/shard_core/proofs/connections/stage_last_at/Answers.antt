use Rattle.outbox.specs.Views.{with_last}
use Rattle.shard_core.proofs.Clients.Staging.{open_at, box_staged, left_after, none_staged_at}
use Rattle.shard_core.proofs.connections.stage_last_at.Goals as goal

pub stage_last-requires-clause-once : goal.stage_last-requires-clause-once
stage_last-requires-clause-once c =
    let conns = c.args.conns.now.items in
    let x = c.index_mut-conn.result.now in
    let is = c.index_mut-conn.ensures.value in
    open_at conns c.args.place x c.requires.within is c.requires.once

pub returns-in_err-stage_last-clause-err : goal.returns-in_err-stage_last-clause-err
returns-in_err-stage_last-clause-err c =
    let conns = c.args.conns.now.items in
    let x = c.index_mut-conn.result.now in
    let is = c.index_mut-conn.ensures.value in
    left_after c.from_residual.result
    (none_staged_at conns c.args.place x c.stage_last.new.self c.requires.within is c.in_err-stage_last.ensures.err)

pub returns-clause-ok : goal.returns-clause-ok
returns-clause-ok c =
    let conns = c.args.conns.now.items in
    let x = c.index_mut-conn.result.now in
    let is = c.index_mut-conn.ensures.value in
    box_staged (with_last c.args.line.now) conns c.args.place x c.stage_last.new.self c.requires.within is
    c.in_ok-stage_last.ensures.ok
