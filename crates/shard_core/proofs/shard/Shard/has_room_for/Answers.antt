use Rattle.std.proofs.Common.{sym, ap, ◌∙◌}
use Rattle.std.specs.List.{list_all}
use Rattle.sub_table.specs.Subscriptions.{is_room, matching_of}
use Rattle.shard_core.specs.Boxes.{form_length, room_left}
use Rattle.shard_core.specs.Held.{Held}
use Rattle.shard_core.proofs.Clients.Rooms.{room_is}
use Rattle.shard_core.proofs.shard.Shard.has_room_for.Goals as goal

pub returns : goal.returns
returns g c =
    let message = c.args.message.now in
    let lengths = c.message_lengths.result in
    c.have_room.ensures
    ∙ (λ k.
    list_all (λ client.
    is_room (form_length lengths client.headers) (room_left client)
    (matching_of client.number ((c.lent.ensures ∙ c.subject.ensures) k) (c.table-table.ensures.subs k)))
    c.self.inside.conns.shown)
    ∙ ap (λ (h : Held).
    list_all (λ client.
    is_room (form_length lengths client.headers) (room_left client)
    (matching_of client.number message.subject h.state.subs))
    h.state.clients)
    c.self.view_is
    ∙ sym (room_is message lengths c.message_lengths.ensures.len c.message_lengths.ensures.some c.args.self.now.state)
