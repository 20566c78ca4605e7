use Rattle.std.proofs.Common.{◌≡◌, map, filter, take}
use Rattle.sub_table.specs.Subscriptions.{gets}
use Rattle.sub_table.proofs.ListTableSubTable.matching.Given as goal

abbrev pub invariant-loop-sub : goal.invariant-loop-sub
invariant-loop-sub l = map (λ sub. sub.now) l.subs.items ≡ filter (gets l.subject) (take l.sub-index l.self.subs.items)
