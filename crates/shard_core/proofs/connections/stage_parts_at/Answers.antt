use Rattle.std.proofs.Common.{◌++◌}
use Rattle.outbox.specs.Views.{spelt_entry, with_entry}
use Rattle.shard_core.proofs.Clients.Staging.{room_at, box_staged, left_after, none_staged_at}
use Rattle.shard_core.proofs.connections.stage_parts_at.Goals as goal

pub stage_parts-requires-clause-room : goal.stage_parts-requires-clause-room
stage_parts-requires-clause-room c =
    let conns = c.args.conns.now.items in
    let x = c.index_mut-conn.result.now in
    let is = c.index_mut-conn.ensures.value in
    room_at conns c.args.place _ x c.requires.within is c.requires.room

pub returns-in_err-stage_parts-clause-err : goal.returns-in_err-stage_parts-clause-err
returns-in_err-stage_parts-clause-err c =
    let conns = c.args.conns.now.items in
    let x = c.index_mut-conn.result.now in
    let is = c.index_mut-conn.ensures.value in
    left_after c.from_residual.result
    (none_staged_at conns c.args.place x c.stage_parts.new.self c.requires.within is c.in_err-stage_parts.ensures.err)

pub returns-clause-ok : goal.returns-clause-ok
returns-clause-ok c =
    let conns = c.args.conns.now.items in
    let x = c.index_mut-conn.result.now in
    let is = c.index_mut-conn.ensures.value in
    box_staged (with_entry (spelt_entry c.args.id c.args.sub c.args.mode (c.args.head.now ++ c.args.tail.now))) conns
    c.args.place x c.stage_parts.new.self c.requires.within is c.in_ok-stage_parts.ensures.ok
