use Rattle.shard_core.proofs.Clients.Told.{told_at}
use Rattle.shard_core.proofs.connections.note_at.Goals as goal

pub returns-clause-told : goal.returns-clause-told
returns-clause-told c =
    told_at c.args.conns.now.items c.args.place c.new.result c.index-conn.result.now c.is_half_full.result
    c.args.dirty_conns.now c.note.new.self c.index-conn.ensures c.new.ensures c.is_half_full.ensures
    c.note.ensures.dirty c.note.ensures.urgent
