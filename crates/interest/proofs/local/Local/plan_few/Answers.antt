use Rattle.std.proofs.Common.{◌≡◌, suc, take, ◌+◌, subst, arith}
use Rattle.interest.specs.Counts.{IsInterest}
use Rattle.interest.proofs.Counting.InOrder.{number_here}
use Rattle.interest.proofs.Counting.Planned.{Planned, planned_next, planned_most, planned_fits}
use Rattle.interest.proofs.local.Local.plan_few.Goals as goal

pub add-requires-clause-fits : goal.add-requires-clause-fits
add-requires-clause-fits c =
    let counts = c.args.self.now in
    let deltas = c.args.deltas.now in
    let i = c.loop-place.place in
    let delta = c.index-deltas-place.result in
    let valid = subst IsInterest c.self.view_is c.self.invariant.valid in
    let number = number_here counts (take i deltas) delta.key c.number_behind-before.result c.weight.result valid
    c.weight.ensures.weight c.number_behind-before.ensures.same in
    planned_fits counts deltas i delta c.number_behind-before.result c.loop-place.invariant.valid
    c.loop-place.invariant.taken c.loop-place-test.true c.index-deltas-place.is number

pub add-requires-clause-few : goal.add-requires-clause-few
add-requires-clause-few c =
    let counts = c.args.self.now in
    let deltas = c.args.deltas.now in
    let i = c.loop-place.place in
    let delta = c.index-deltas-place.result in
    let valid = subst IsInterest c.self.view_is c.self.invariant.valid in
    let number = number_here counts (take i deltas) delta.key c.number_behind-before.result c.weight.result valid
    c.weight.ensures.weight c.number_behind-before.ensures.same in
    planned_most counts deltas i delta c.number_behind-before.result c.loop-place.invariant.valid number

pub loop-place-preserved : goal.loop-place-preserved
loop-place-preserved c =
    let counts = c.args.self.now in
    let deltas = c.args.deltas.now in
    let i = c.loop-place.place in
    let delta = c.index-deltas-place.result in
    let valid = subst IsInterest c.self.view_is c.self.invariant.valid in
    let number = number_here counts (take i deltas) delta.key c.number_behind-before.result c.weight.result valid
    c.weight.ensures.weight c.number_behind-before.ensures.same in
    let next : suc i ≡ i + 1 = omega arith in
    subst (λ j. Planned counts deltas j c.add.new.self.opened.items c.add.new.self.changes.items) next
    (planned_next counts deltas i delta c.number_behind-before.result c.loop-place.plan.opened.items
    c.loop-place.plan.changes.items c.add.new.self.opened.items c.add.new.self.changes.items c.loop-place.invariant
    c.loop-place-test.true c.index-deltas-place.is number c.in_ok-add.ensures.opened c.in_ok-add.ensures.changes)
