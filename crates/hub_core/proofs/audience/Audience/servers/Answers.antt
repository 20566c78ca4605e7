use Rattle.std.proofs.Common.{◌<◌, ◌≤◌, ◌+◌, List, length, get_or, sym, ap, ◌∙◌, subst, arith}
use Rattle.pick.specs.Pick.{Weighted, pick_of}
use Rattle.hub_core.proofs.Choices.Filled.{mapped_on, mapped_all}
use Rattle.hub_core.proofs.audience.Audience.servers.Goals as goal

pub loop-weights-preserved : goal.loop-weights-preserved
loop-weights-preserved c =
    let l = c.loop-weights in
    let all = c.args.self.now.weights.items in
    let one = c.weights-item.result in
    let these = c.deref-weights-items.ensures.value in
    record {
      filled =
          mapped_on (λ (weights : List Weighted). pick_of weights c.args.word) all l.weights-index one c.pick.result
          l.servers.items c.push_reserved.new.self.items
          (subst (λ (items : List (List Weighted)). l.weights-index < length items) these c.loop-weights-test.true)
          (c.weights-item.is ∙ ap (λ (items : List (List Weighted)). get_or items l.weights-index one) these)
          c.pick.ensures c.push_reserved.ensures.items l.invariant.filled;
      count = c.push_reserved.ensures.len ∙ ap (λ n. n + 1) l.invariant.count;
      room = subst (λ n. length all ≤ n) (sym c.push_reserved.ensures.capacity) l.invariant.room;
    }

pub push_reserved-requires : goal.push_reserved-requires
push_reserved-requires c =
    let these = ap (λ (items : List (List Weighted)). length items) c.deref-weights-items.ensures.value in omega arith

pub returns : goal.returns
returns c =
    mapped_all (λ (weights : List Weighted). pick_of weights c.args.word) c.args.self.now.weights.items
    c.loop-weights.weights-index c.loop-weights.servers.items
    (subst (λ (items : List (List Weighted)). length items ≤ c.loop-weights.weights-index)
    c.deref-weights-items.ensures.value c.loop-weights-test.false)
    c.loop-weights.invariant.filled
