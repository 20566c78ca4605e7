use Rattle.std.proofs.Common.{sym, ap, ◌∙◌}
use Rattle.sub_table.specs.Subscriptions.{matching_of, is_room}
use Rattle.sub_table.proofs.Rooms.{room_on, room_not, room_all}
use Rattle.sub_table.proofs.ListTableSubTable.has_room.Goals as goal

pub loop-sub-preserved : goal.loop-sub-preserved
loop-sub-preserved c =
    let subs = c.deref-sub-items.result.now in
    room_on c.args.conn c.args.subject.now c.args.len c.loop-sub.room c.in-Some.left
    (is_room c.args.len c.args.room (matching_of c.args.conn c.args.subject.now subs)) subs c.loop-sub.sub-index
    c.sub-item.result c.loop-sub-test.true c.sub-item.is (sym c.room_left.ensures ∙ c.in-Some.is) c.loop-sub.invariant

pub returns-in_default : goal.returns-in_default
returns-in_default c =
    let subs = c.deref-sub-items.result.now in
    room_not c.args.conn c.args.subject.now c.args.len c.loop-sub.room
    (is_room c.args.len c.args.room (matching_of c.args.conn c.args.subject.now subs)) subs c.loop-sub.sub-index
    c.sub-item.result c.loop-sub-test.true c.sub-item.is (sym c.room_left.ensures ∙ c.in_default.is)
    c.loop-sub.invariant
    ∙ ap (λ l. is_room c.args.len c.args.room (matching_of c.args.conn c.args.subject.now l))
    c.deref-sub-items.ensures.value

pub returns : goal.returns
returns c =
    let subs = c.deref-sub-items.result.now in
    room_all c.args.conn c.args.subject.now c.args.len c.loop-sub.room
    (is_room c.args.len c.args.room (matching_of c.args.conn c.args.subject.now subs)) subs c.loop-sub.sub-index
    c.loop-sub-test.false c.loop-sub.invariant
    ∙ ap (λ l. is_room c.args.len c.args.room (matching_of c.args.conn c.args.subject.now l))
    c.deref-sub-items.ensures.value
