use Rattle.std.proofs.Common.{◌∙◌, cond, arith}
use Rattle.subj.specs.QueueNames.{is_named}
use Rattle.interest.specs.Matches.{weight_in}
use Rattle.interest.proofs.Matching.Wanting.{weight_at_start, weight_further}
use Rattle.interest.proofs.views.weight_among.Goals as goal

pub loop-place-init : goal.loop-place-init
loop-place-init c =
    let on = c.next_match-place.ensures in
    record {
      within = on.within;
      found = on.found;
      left = weight_at_start c.args.subject.now c.args.name.now c.args.keys.now c.next_match-place.result on;
      small = omega arith;
    }

pub loop-place-preserved : goal.loop-place-preserved
loop-place-preserved c =
    let on = c.next_match-place-in-loop-place.ensures in
    let weighs = c.weight_of-total.ensures.same
    ∙ (λ i. cond (is_named c.args.name.now (c.key.ensures.same i).queue) (c.weight.ensures.same i) 0) in
    let small = c.loop-place.invariant.small in
    let after = on.after in
    record {
      within = on.within;
      found = on.found;
      left =
          weight_further c.args.subject.now c.args.name.now c.args.keys.now c.loop-place.total c.loop-place.place
          c.next_match-place-in-loop-place.result c.weight_of-total.result
          (weight_in c.args.subject.now c.args.name.now c.args.keys.now) c.index-keys-place.result
          c.loop-place-test.true c.index-keys-place.is c.loop-place.invariant.found weighs c.loop-place.invariant.left
          on;
      small = grind arith;
    }
