use Rattle.shard_core.proofs.Clients.Staging.{alike_there}
use Rattle.shard_core.proofs.connections.note_staged.Goals as goal

pub returns-then-is_last-clause-ok : goal.returns-then-is_last-clause-ok
returns-then-is_last-clause-ok c =
    alike_there c.args.seat.place c.args.places.now.items (c.is_last.ensures c.if-is_last.true)
