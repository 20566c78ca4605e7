use Rattle.std.proofs.Common.{◌≡◌, ◌++◌, take}
use Rattle.sub_table.specs.Subscriptions.{serials_of}
use Rattle.sub_table.proofs.ListTableSubTable.serials_of.Given as goal

abbrev pub invariant-loop-sub : goal.invariant-loop-sub
invariant-loop-sub l = l.serials.items ≡ l.fn.serials.items ++ serials_of l.conn (take l.sub-index l.self.subs.items)
