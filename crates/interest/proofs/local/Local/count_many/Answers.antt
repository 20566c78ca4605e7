use Rattle.std.proofs.Common.{◌≡◌, suc, ◌+◌, refl, subst, arith}
use Rattle.subj.specs.Keys.{cost_of}
use Rattle.interest.specs.Recounts.{IsOneMore, number_among}
use Rattle.interest.proofs.Counting.Numbered.{Reached, reached_first, reached_next, number_small, refused_now, all_counted}
use Rattle.interest.proofs.local.Local.count_many.Goals as goal

pub loop-place-init : goal.loop-place-init
loop-place-init c =
    let plan = c.args.plan.now in
    let none = c.requires.none in
    reached_first c.args.self.now c.args.deltas.now plan.keys plan.bytes plan.numbers.entries plan.changes.items
    c.requires.valid none.2 none.3 none.0 none.1

pub count_one-requires-clause-few : goal.count_one-requires-clause-few
count_one-requires-clause-few c =
    let plan = c.loop-place.plan in
    let delta = c.index-deltas-place.result in
    number_small c.args.self.now c.args.deltas.now c.loop-place.place plan.keys plan.bytes plan.numbers.entries
    plan.changes.items c.loop-place.invariant delta c.loop-place-test.true c.index-deltas-place.is
    (number_among c.args.self.now plan.numbers.entries delta.key) refl

pub returns-then-not-branch : goal.returns-then-not-branch
returns-then-not-branch c =
    let plan = c.loop-place.plan in
    let delta = c.index-deltas-place.result in
    refused_now c.args.self.now c.args.deltas.now c.loop-place.place plan.keys plan.bytes plan.numbers.entries
    plan.changes.items c.loop-place.invariant delta c.loop-place-test.true c.index-deltas-place.is
    (number_among c.args.self.now plan.numbers.entries delta.key) refl
    (subst (IsOneMore c.args.self.now delta plan c.count_one.new.plan) c.if-not-branch.true c.in_ok-count_one.ensures)

pub loop-place-preserved : goal.loop-place-preserved
loop-place-preserved c =
    let plan = c.loop-place.plan in
    let delta = c.index-deltas-place.result in
    let after = c.count_one.new.plan in
    let next : suc c.loop-place.place ≡ c.loop-place.place + 1 = omega arith in
    let more = subst (IsOneMore c.args.self.now delta plan after) c.if-not-branch.false c.in_ok-count_one.ensures in
    subst
    (λ j. Reached c.args.self.now c.args.deltas.now j after.keys after.bytes after.numbers.entries after.changes.items)
    next
    (reached_next c.args.self.now c.args.deltas.now c.loop-place.place plan.keys plan.bytes plan.numbers.entries
    plan.changes.items c.loop-place.invariant delta c.loop-place-test.true c.index-deltas-place.is
    (number_among c.args.self.now plan.numbers.entries delta.key) refl more.taken after.keys after.bytes
    (cost_of delta.key) after.numbers.entries after.changes.items more.keys refl more.bytes more.numbers more.changes)

pub returns : goal.returns
returns c =
    all_counted c.args.self.now c.args.deltas.now c.loop-place.place c.loop-place.plan c.loop-place.invariant
    (omega arith)
