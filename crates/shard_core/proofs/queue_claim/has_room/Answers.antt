use Rattle.std.proofs.Common.{ap, ◌∙◌}
use Rattle.shard_core.specs.Shards.{client_at, fits_len, takes_headers}
use Rattle.shard_core.proofs.queue_claim.has_room.Goals as goal

pub returns : goal.returns
returns c =
    let conn = c.args.sub.now.conn in
    let next = c.args.conns.now.next in
    c.has_room.ensures
    ∙ ap (fits_len (client_at conn next))
    (c.due_lengths.ensures c.args.claim.now.shard c.args.sub.now.key.queue (takes_headers conn next))
