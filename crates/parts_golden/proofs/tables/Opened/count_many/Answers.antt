use Rattle.std.proofs.Common.{◌+◌, sym, subst, arith}
use Rattle.std.specs.Prelude.{◌<◌, ◌^◌, ◌≤◌, All, IfSome}
use Rattle.sub_table.specs.declared.Subscription.{Subscription}
use Rattle.parts_golden.proofs.Below.{below_counted}
use Rattle.parts_golden.proofs.tables.Opened.count_many.Goals as goal

pub count_many-requires : goal.count_many-requires
count_many-requires g c =
    let below = c.if-sub-count.false in
    let fits : c.in-Some.sub.now.delivered + c.args.count < 2 ^ 64 = omega arith in
    subst (λ o. IfSome o (λ (s : Subscription). s.delivered + c.args.count < 2 ^ 64)) c.in-Some.ensures fits

pub invariant_of-self : goal.invariant_of-self
invariant_of-self g c = record {
  below =
      subst (λ l. All (λ (s : Subscription). s.serial ≤ c.args.self.now.last) l) (sym c.count_many.ensures)
      (below_counted c.args.self.now.last c.args.serial c.args.count (g.T.SubTable.contents c.args.self.now.table)
      c.args.self.now.below);
}
