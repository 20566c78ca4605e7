use Rattle.std.proofs.Common.{map, sym, ap, ◌∙◌}
use Rattle.std.proofs.lemmas.List.{at_drop_all}
use Rattle.settled_law.specs.Tests.{are_roomy}
use Rattle.cluster_world.specs.Value.{running_in}
use Rattle.cluster_world.proofs.Clusters.Testing.{roomy_on, roomy_not}
use Rattle.cluster_world.proofs.nodes.Nodes.have_room_for.Goals as goal

pub loop-slot-preserved : goal.loop-slot-preserved
loop-slot-preserved g c =
    let message = c.args.message.now in
    let nodes = c.deref-slot-items.result.now in
    roomy_on message nodes c.loop-slot.slot-index c.slot-item.result c.has_room_at.result
    (are_roomy message (map running_in nodes)) c.loop-slot-test.true c.slot-item.is c.has_room_at.ensures
    c.loop-slot.invariant c.if-not-has_room_at.false

pub returns-then-not-has_room_at : goal.returns-then-not-has_room_at
returns-then-not-has_room_at g c =
    let message = c.args.message.now in
    let nodes = c.deref-slot-items.result.now in
    roomy_not message nodes c.loop-slot.slot-index c.slot-item.result c.has_room_at.result
    (are_roomy message (map running_in nodes)) c.loop-slot-test.true c.slot-item.is c.has_room_at.ensures
    c.loop-slot.invariant c.if-not-has_room_at.true
    ∙ ap (λ l. are_roomy message (map running_in l)) (c.deref-slot-items.ensures.value ∙ c.self.view_is)

pub returns : goal.returns
returns g c =
    let message = c.args.message.now in
    let nodes = c.deref-slot-items.result.now in
    sym (at_drop_all (λ l. are_roomy message (map running_in l)) nodes c.loop-slot.slot-index c.loop-slot-test.false)
    ∙ c.loop-slot.invariant
    ∙ ap (λ l. are_roomy message (map running_in l)) (c.deref-slot-items.ensures.value ∙ c.self.view_is)
