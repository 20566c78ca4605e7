use Rattle.std.proofs.Common.{◌≡◌, drop}
use Rattle.sub_table.specs.Subscriptions.{matching_of, is_room}
use Rattle.sub_table.proofs.ListTableSubTable.has_room.Given as goal

abbrev pub invariant-loop-sub : goal.invariant-loop-sub
invariant-loop-sub l =
    is_room l.len l.fn.room (matching_of l.conn l.subject l.sub-items)
    ≡ is_room l.len l.room (matching_of l.conn l.subject (drop l.sub-index l.sub-items))
