use Rattle.std.proofs.Common.{ap, arith}
use Rattle.route_values.specs.Snapshots.{Weighted}
use Rattle.interest.specs.Matches.{weight_in}
use Rattle.interest.proofs.Counting.Entries.{counted_at}
use Rattle.interest.proofs.Matching.Wanting.{weight_at_start, weight_further}
use Rattle.interest.proofs.local.weight_among.Goals as goal

pub loop-place-init : goal.loop-place-init
loop-place-init c =
    let on = c.next_match-place.ensures in
    record {
      within = on.within;
      found = on.found;
      left = weight_at_start c.args.subject.now c.args.name.now c.args.entries.now c.next_match-place.result on;
      small = omega arith;
    }

pub overflow_add-total : goal.overflow_add-total
overflow_add-total c =
    let few = c.requires.few in
    let x = c.index-entries-place.result in
    let fits = counted_at c.args.entries.now c.loop-place.place x c.requires c.loop-place-test.true in
    let same = ap (λ (entry : Weighted). entry.1) c.index-entries-place.is in
    let most = c.weight_of-total.ensures.most in
    let small = c.loop-place.invariant.small in
    let below = c.loop-place-test.true in
    omega arith

pub loop-place-preserved : goal.loop-place-preserved
loop-place-preserved c =
    let on = c.next_match-place-in-loop-place.ensures in
    let x = c.index-entries-place.result in
    let fits = counted_at c.args.entries.now c.loop-place.place x c.requires c.loop-place-test.true in
    let same = ap (λ (entry : Weighted). entry.1) c.index-entries-place.is in
    let most = c.weight_of-total.ensures.most in
    let small = c.loop-place.invariant.small in
    let after = on.after in
    record {
      within = on.within;
      found = on.found;
      left =
          weight_further c.args.subject.now c.args.name.now c.args.entries.now c.loop-place.total c.loop-place.place
          c.next_match-place-in-loop-place.result c.weight_of-total.result
          (weight_in c.args.subject.now c.args.name.now c.args.entries.now) x c.loop-place-test.true
          c.index-entries-place.is c.loop-place.invariant.found c.weight_of-total.ensures.same
          c.loop-place.invariant.left on;
      small = omega arith;
    }
