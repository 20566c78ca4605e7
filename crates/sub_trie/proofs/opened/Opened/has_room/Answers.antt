use Rattle.std.proofs.Common.{◌+◌, drop, sym, ap, ◌∙◌}
use Rattle.std.specs.Option.{option_copied}
use Rattle.sub_table.specs.Subscriptions.{matching_of}
use Rattle.sub_table.proofs.Rooms.{is_left}
use Rattle.sub_trie.specs.Recalls.{subs_of_serials}
use Rattle.sub_trie.specs.Rising.{subs_in_order}
use Rattle.sub_trie.proofs.Rooms.{room_some}
use Rattle.sub_trie.proofs.opened.Opened.has_room.Goals as goal

pub returns-in_default-room_left : goal.returns-in_default-room_left
returns-in_default-room_left c =
    let l = c.loop-serial in
    let subs = subs_in_order c.args.self.now.subs in
    let serials = c.args.serials.now in
    let found = sym c.get.ensures ∙ ap option_copied c.in-Some.is in
    let rest = matching_of c.args.conn c.args.subject.now (subs_of_serials subs (drop (l.serial-index + 1) serials)) in
    sym
    (l.invariant
    ∙ room_some c.args.conn c.args.subject.now c.args.len l.room subs serials l.serial-index
    c.loop-serial-test.true c.in-Some.sub.now found
    ∙ ap (is_left c.args.len rest) (sym c.room_left.ensures ∙ c.in_default-room_left.is))

pub loop-serial-preserved : goal.loop-serial-preserved
loop-serial-preserved c =
    let l = c.loop-serial in
    let subs = subs_in_order c.args.self.now.subs in
    let serials = c.args.serials.now in
    let found = sym c.get.ensures ∙ ap option_copied c.in-Some.is in
    let rest = matching_of c.args.conn c.args.subject.now (subs_of_serials subs (drop (l.serial-index + 1) serials)) in
    l.invariant
    ∙ room_some c.args.conn c.args.subject.now c.args.len l.room subs serials l.serial-index
    c.loop-serial-test.true c.in-Some.sub.now found
    ∙ ap (is_left c.args.len rest) (sym c.room_left.ensures ∙ c.in-Some-room_left.is)
