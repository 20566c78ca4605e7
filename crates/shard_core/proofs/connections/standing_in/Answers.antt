use Rattle.std.proofs.Common.{sym, ap, ◌∙◌}
use Rattle.outbox.specs.Views.{has_room}
use Rattle.shard_core.specs.declared.standings.Seat.{Seat}
use Rattle.shard_core.specs.Boxes.{next_backlog, form_length, standing_of}
use Rattle.shard_core.specs.Shards.{takes_events}
use Rattle.shard_core.proofs.Clients.Lookups.{client_none, standing_is}
use Rattle.shard_core.proofs.connections.standing_in.Goals as goal

pub returns-in-None : goal.returns-in-None
returns-in-None c =
    ap takes_events
    (client_none next_backlog c.args.conn c.args.conns.now.items (sym c.place_near.ensures ∙ c.in-None.is))

pub returns-in-Some : goal.returns-in-Some
returns-in-Some c =
    standing_is c.standing_at.result c.args.conn c.in-Some.place c.args.lengths c.args.conns.now.items
    c.index-there.result.now (sym c.place_near.ensures ∙ c.in-Some.is) c.index-there.ensures
    (c.standing_at.ensures
    ∙ ap (λ (s : Seat).
    standing_of s
    (has_room c.index-there.result.now.outbox.max_entries c.index-there.result.now.outbox.max_bytes
    (form_length c.args.lengths s.takes_headers) c.index-there.result.now.outbox.next)
    c.index-there.result.now.outbox.next.shut)
    c.seat_at.ensures)
