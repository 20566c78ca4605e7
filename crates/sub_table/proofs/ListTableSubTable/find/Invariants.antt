use Rattle.std.proofs.Common.{◌≡◌, drop}
use Rattle.sub_table.specs.Subscriptions.{serial_called}
use Rattle.sub_table.proofs.ListTableSubTable.find.Given as goal

-- what is left decides as the whole does
abbrev pub invariant-loop-sub : goal.invariant-loop-sub
invariant-loop-sub l =
    serial_called l.conn l.sid (drop l.sub-index l.self.subs.items) ≡ serial_called l.conn l.sid l.self.subs.items
