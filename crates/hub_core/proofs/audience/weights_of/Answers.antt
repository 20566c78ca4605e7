use Rattle.std.proofs.Common.{◌≤◌, ◌+◌, ℕ, List, length, sym, ap, ◌∙◌, subst, arith}
use Rattle.hub_core.specs.Choice.{weights_from}
use Rattle.hub_core.proofs.Choices.Filled.{mapped_on, mapped_all}
use Rattle.hub_core.proofs.audience.weights_of.Goals as goal

pub loop-name-preserved : goal.loop-name-preserved
loop-name-preserved c =
    let l = c.loop-name in
    record {
      filled =
          mapped_on
          (λ (name : List ℕ).
          weights_from c.args.server.now c.args.counts.now c.args.subject.now name 0 c.args.peers.now)
          c.args.names.now l.name-index c.name-item.result c.in_ok-found.found l.weights.items
          c.push_reserved.new.self.items c.loop-name-test.true c.name-item.is c.in_ok-found.ensures
          c.push_reserved.ensures.items l.invariant.filled;
      count = c.push_reserved.ensures.len ∙ ap (λ n. n + 1) l.invariant.count;
      room = subst (λ n. length c.args.names.now ≤ n) (sym c.push_reserved.ensures.capacity) l.invariant.room;
    }

pub push_reserved-requires : goal.push_reserved-requires
push_reserved-requires c = omega arith

pub returns : goal.returns
returns c =
    mapped_all
    (λ (name : List ℕ). weights_from c.args.server.now c.args.counts.now c.args.subject.now name 0 c.args.peers.now)
    c.args.names.now c.loop-name.name-index c.loop-name.weights.items c.loop-name-test.false
    c.loop-name.invariant.filled
