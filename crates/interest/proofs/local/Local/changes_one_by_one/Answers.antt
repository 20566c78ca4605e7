use Rattle.std.proofs.Common.{◌≡◌, suc, take, ◌+◌, cond, length, Some, None, sym, ap, ◌∙◌, subst, arith}
use Rattle.interest.specs.Counts.{IsInterest}
use Rattle.interest.specs.Told.{changes_told}
use Rattle.interest.proofs.Counting.InOrder.{CountedSoFar, number_here, refused_here, counted_next}
use Rattle.interest.proofs.local.Local.changes_one_by_one.Goals as goal

pub returns-then-is_refused : goal.returns-then-is_refused
returns-then-is_refused c =
    let counts = c.args.self.now in
    let deltas = c.args.deltas.now in
    let i = c.loop-place.place in
    let delta = c.index-deltas-place.result in
    let valid = subst IsInterest c.self.view_is c.self.invariant.valid in
    let number = number_here counts (take i deltas) delta.key c.number_behind-number.result c.weight.result valid
    c.weight.ensures.weight c.number_behind-number.ensures.same in
    let refused = refused_here counts deltas i c.loop-place.keys c.loop-place.bytes c.loop-place.changes
    c.number_behind-number.result delta c.loop-place.invariant c.loop-place-test.true c.index-deltas-place.is number
    (sym c.is_refused.ensures ∙ c.if-is_refused.true) in
    ap (λ b. cond b None (Some (length (changes_told counts deltas)))) (sym refused)

pub loop-place-preserved : goal.loop-place-preserved
loop-place-preserved c =
    let counts = c.args.self.now in
    let deltas = c.args.deltas.now in
    let i = c.loop-place.place in
    let delta = c.index-deltas-place.result in
    let valid = subst IsInterest c.self.view_is c.self.invariant.valid in
    let number = number_here counts (take i deltas) delta.key c.number_behind-number.result c.weight.result valid
    c.weight.ensures.weight c.number_behind-number.ensures.same in
    let next : suc i ≡ i + 1 = omega arith in
    subst (λ j.
    CountedSoFar counts deltas j c.total-keys.result c.total-bytes.result
    (c.loop-place.changes + c.changes_told-changes.result))
    next
    (counted_next counts deltas i c.loop-place.keys c.loop-place.bytes c.loop-place.changes
    c.number_behind-number.result c.cost.result c.changes_told-changes.result c.total-keys.result c.total-bytes.result
    delta c.loop-place.invariant c.loop-place-test.true c.index-deltas-place.is number
    (sym c.is_refused.ensures ∙ c.if-is_refused.false) c.total-keys.ensures c.cost.ensures.same c.total-bytes.ensures
    c.changes_told-changes.ensures)
