use Rattle.std.proofs.Common.{◌++◌}
use Rattle.outbox.specs.Views.{spelt_entry, with_entry}
use Rattle.outbox.specs.declared.entries.Mode.TheVariants.{Queue}
use Rattle.shard_core.proofs.Clients.Staging.{room_at, box_staged, left_after, none_staged_at}
use Rattle.shard_core.proofs.connections.queued.stage_queued_at.Goals as goal

pub stage_queued-requires-clause-room : goal.stage_queued-requires-clause-room
stage_queued-requires-clause-room c =
    let conns = c.args.conns.now.items in
    let x = c.index_mut-conn.result.now in
    let is = c.index_mut-conn.ensures.value in
    room_at conns c.args.place _ x c.requires.within is c.requires.room

pub returns-in_err-stage_queued-clause-err : goal.returns-in_err-stage_queued-clause-err
returns-in_err-stage_queued-clause-err c =
    let conns = c.args.conns.now.items in
    let x = c.index_mut-conn.result.now in
    let is = c.index_mut-conn.ensures.value in
    left_after c.from_residual.result
    (none_staged_at conns c.args.place x c.stage_queued.new.self c.requires.within is c.in_err-stage_queued.ensures.err)

pub returns-clause-ok : goal.returns-clause-ok
returns-clause-ok c =
    let conns = c.args.conns.now.items in
    let x = c.index_mut-conn.result.now in
    let is = c.index_mut-conn.ensures.value in
    box_staged
    (with_entry (spelt_entry c.args.id c.args.sub (Queue c.args.name.now) (c.args.head.now ++ c.args.tail.now))) conns
    c.args.place x c.stage_queued.new.self c.requires.within is c.in_ok-stage_queued.ensures.ok
