use Rattle.std.proofs.Common.{◌≡◌, ◌<◌, length, map, get_or, ap, ◌∙◌, subst}
use Rattle.settled_law.specs.Tests.{are_settled}
use Rattle.cluster_world.specs.Value.{running_in}
use Rattle.cluster_world.proofs.Clusters.Testing.{settled_on, settled_not}
use Rattle.cluster_world.proofs.nodes.Nodes.are_settled.Goals as goal

pub loop-place-preserved : goal.loop-place-preserved
loop-place-preserved g c =
    let nodes = c.args.self.now in
    let i = c.loop-place.place in
    let o = c.slot-item.result in
    let all = map running_in nodes in
    let same : c.deref-slot-items.result.now ≡ nodes = c.deref-slot-items.ensures.value ∙ c.self.view_is in
    let lt = subst (λ l. i < length l) same c.loop-place-test.true in
    let is = c.slot-item.is ∙ ap (λ l. get_or l i o) same in
    λ cluster places.
    settled_on nodes i o lt is c.in-Some.node c.in-Some.is c.args.subject.now all c.is_settled_at.result
    c.is_settled_at.ensures cluster places (are_settled cluster c.args.subject.now all 0 all)
    c.if-not-is_settled_at.false (c.loop-place.invariant cluster places)

pub returns-then-not-is_settled_at : goal.returns-then-not-is_settled_at
returns-then-not-is_settled_at g c =
    let nodes = c.args.self.now in
    let i = c.loop-place.place in
    let o = c.slot-item.result in
    let all = map running_in nodes in
    let same : c.deref-slot-items.result.now ≡ nodes = c.deref-slot-items.ensures.value ∙ c.self.view_is in
    let lt = subst (λ l. i < length l) same c.loop-place-test.true in
    let is = c.slot-item.is ∙ ap (λ l. get_or l i o) same in
    λ cluster places.
    settled_not nodes i o lt is c.in-Some.node c.in-Some.is c.args.subject.now all c.is_settled_at.result
    c.is_settled_at.ensures cluster places (are_settled cluster c.args.subject.now all 0 all)
    c.if-not-is_settled_at.true (c.loop-place.invariant cluster places)
