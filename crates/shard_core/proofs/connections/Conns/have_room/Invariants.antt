use Rattle.std.proofs.Common.{◌≡◌, drop}
use Rattle.std.specs.List.{list_all}
use Rattle.sub_table.specs.Subscriptions.{is_room, matching_of}
use Rattle.shard_core.specs.Boxes.{client_in_view, shown_backlog, form_length, room_left}
use Rattle.shard_core.proofs.connections.Conns.have_room.Given as goal

abbrev pub invariant-loop-conn : goal.invariant-loop-conn
invariant-loop-conn g l =
    list_all (λ conn.
    is_room (form_length l.lengths conn.headers) (room_left (client_in_view shown_backlog conn))
    (matching_of conn.number l.subject (g.T.SubTable.contents l.table)))
    (drop l.conn-index l.conn-items)
    ≡ list_all (λ conn.
    is_room (form_length l.lengths conn.headers) (room_left (client_in_view shown_backlog conn))
    (matching_of conn.number l.subject (g.T.SubTable.contents l.table)))
    l.conn-items
