use Rattle.std.proofs.Common.{◌≡◌, drop}
use Rattle.sub_table.specs.Subscriptions.{matching_of, is_room}
use Rattle.sub_trie.specs.Recalls.{subs_of_serials}
use Rattle.sub_trie.specs.Rising.{subs_in_order}
use Rattle.sub_trie.proofs.opened.Opened.has_room.Given as goal

abbrev pub invariant-loop-serial : goal.invariant-loop-serial
invariant-loop-serial l =
    is_room l.len l.fn.room (matching_of l.conn l.subject (subs_of_serials (subs_in_order l.self.subs) l.serials))
    ≡ is_room l.len l.room
    (matching_of l.conn l.subject (subs_of_serials (subs_in_order l.self.subs) (drop l.serial-index l.serials)))
