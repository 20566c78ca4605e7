use Rattle.std.proofs.Common.{rules, ◌<◌, length}
use Rattle.shard_core.proofs.Clients.Order.{place_known}
use Rattle.shard_core.proofs.connections.is_at.Goals as goal

pub returns : goal.returns
returns c = λ told.
    let within : c.args.place < length c.args.conns.now.items = search rules in
    place_known c.args.conns.now.items c.args.number c.args.place c.index.result.now c.requires within c.index.ensures
    told
