use Rattle.std.proofs.Common.{sym, ap, ◌∙◌}
use Rattle.std.specs.List.{list_all}
use Rattle.std.proofs.lemmas.List.{at_drop_all}
use Rattle.std.proofs.lemmas.List.Folds.{list_all-map}
use Rattle.sub_table.specs.Subscriptions.{is_room, matching_of}
use Rattle.shard_core.specs.Boxes.{Clients, client_in_view, shown_backlog, form_length, room_left}
use Rattle.shard_core.specs.Shards.{Client}
use Rattle.shard_core.specs.declared.connections.Conn.{Conn}
use Rattle.shard_core.proofs.Clients.Rooms.{all_on, all_not}
use Rattle.shard_core.proofs.connections.Conns.have_room.Goals as goal

pub loop-conn-preserved : goal.loop-conn-preserved
loop-conn-preserved g c =
    let subs = g.T.SubTable.contents c.args.table.now in
    let kept = λ (conn : Conn).
    is_room (form_length c.args.lengths conn.headers) (room_left (client_in_view shown_backlog conn))
    (matching_of conn.number c.args.subject.now subs) in
    let items = c.deref-conn-items.result.now in
    let told = c.has_room.ensures ∙ (λ k.
    is_room (c.len_of-len.ensures k) (c.room_of.ensures k)
    (matching_of (c.new-number.ensures k) c.args.subject.now subs)) in
    all_on kept items c.loop-conn.conn-index c.conn-item.result c.has_room.result (list_all kept items)
    c.loop-conn-test.true c.conn-item.is told c.if-not-has_room.false c.loop-conn.invariant

pub returns-then-not-has_room : goal.returns-then-not-has_room
returns-then-not-has_room g c =
    let subs = g.T.SubTable.contents c.args.table.now in
    let shown = λ (client : Client).
    is_room (form_length c.args.lengths client.headers) (room_left client)
    (matching_of client.number c.args.subject.now subs) in
    let kept = λ (conn : Conn). shown (client_in_view shown_backlog conn) in
    let items = c.deref-conn-items.result.now in
    let told = c.has_room.ensures ∙ (λ k.
    is_room (c.len_of-len.ensures k) (c.room_of.ensures k)
    (matching_of (c.new-number.ensures k) c.args.subject.now subs)) in
    let not = all_not kept items c.loop-conn.conn-index c.conn-item.result c.has_room.result (list_all kept items)
    c.loop-conn-test.true c.conn-item.is told c.if-not-has_room.true c.loop-conn.invariant in
    not
    ∙ ap (list_all kept) c.deref-conn-items.ensures.value
    ∙ sym (list_all-map shown (client_in_view shown_backlog) c.self.inside.conns.items)
    ∙ ap (λ (v : Clients). list_all shown v.shown) c.self.view_is

pub returns : goal.returns
returns g c =
    let subs = g.T.SubTable.contents c.args.table.now in
    let shown = λ (client : Client).
    is_room (form_length c.args.lengths client.headers) (room_left client)
    (matching_of client.number c.args.subject.now subs) in
    let kept = λ (conn : Conn). shown (client_in_view shown_backlog conn) in
    let items = c.deref-conn-items.result.now in
    let all =
    sym (at_drop_all (list_all kept) items c.loop-conn.conn-index c.loop-conn-test.false) ∙ c.loop-conn.invariant in
    all
    ∙ ap (list_all kept) c.deref-conn-items.ensures.value
    ∙ sym (list_all-map shown (client_in_view shown_backlog) c.self.inside.conns.items)
    ∙ ap (λ (v : Clients). list_all shown v.shown) c.self.view_is
