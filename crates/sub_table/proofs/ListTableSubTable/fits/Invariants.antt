use Rattle.std.proofs.Common.{◌≡◌, ◌+◌, take}
use Rattle.sub_table.specs.Subscriptions.{total_cost}
use Rattle.sub_table.proofs.ListTableSubTable.fits.Given as goal

abbrev pub invariant-loop-sub : goal.invariant-loop-sub
invariant-loop-sub l = l.left + (l.cost + total_cost (take l.sub-index l.self.subs.items)) ≡ l.limit
