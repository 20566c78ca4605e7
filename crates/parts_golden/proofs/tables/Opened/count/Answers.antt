use Rattle.std.proofs.Common.{◌+◌, sym, subst, arith}
use Rattle.std.specs.Prelude.{◌<◌, ◌^◌, ◌≤◌, All, IfSome}
use Rattle.sub_table.specs.declared.Subscription.{Subscription}
use Rattle.parts_golden.proofs.Below.{below_counted}
use Rattle.parts_golden.proofs.tables.Opened.count.Goals as goal

pub count-requires : goal.count-requires
count-requires g c =
    let below = c.if-sub-ge18446744073709551615.false in
    let fits : c.in-Some.sub.now.delivered + 1 < 2 ^ 64 = omega arith in
    subst (λ o. IfSome o (λ (s : Subscription). s.delivered + 1 < 2 ^ 64)) c.in-Some.ensures fits

pub invariant_of-self : goal.invariant_of-self
invariant_of-self g c = record {
  below =
      subst (λ l. All (λ (s : Subscription). s.serial ≤ c.args.self.now.last) l) (sym c.count.ensures)
      (below_counted c.args.self.now.last c.args.serial 1 (g.T.SubTable.contents c.args.self.now.table)
      c.args.self.now.below);
}
