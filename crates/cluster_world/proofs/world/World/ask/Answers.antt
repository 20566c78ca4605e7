use Rattle.std.proofs.Common.{◌∙◌, sym, ap, subst}
use Rattle.std.specs.List.{flat_map}
use Rattle.std.specs.Option.{option_map}
use Rattle.node_core.specs.Lent.{asked_of}
use Rattle.cluster_world.specs.InCode.{event_of, items_of}
use Rattle.cluster_world.specs.Value.{listed_of, world_of, IsStepped}
use Rattle.cluster_world.proofs.Clusters.Kept.{found_cause}
use Rattle.cluster_world.proofs.world.World.ask.Goals as goal

pub refuse-requires-clause-cause : goal.refuse-requires-clause-cause
refuse-requires-clause-cause g c =
    let o = c.self.inside in
    let is = c.asked_by-asked.ensures (world_of o.step o.nodes (listed_of o.lists))
    (ap (flat_map items_of) (sym c.deref.ensures.value)) in (
      event_of c.args.event.now,
      sym (found_cause o.server o.step o.nodes (listed_of o.lists) c.args.self.now c.self.view_is c.self.invariant
          c.args.n (event_of c.args.event.now) (option_map asked_of c.asked_by-asked.result) c.requires.at is)
          ∙ sym c.fault.ensures ∙ c.in-Some.is,
    )

pub returns-in-Some-clause-ok : goal.returns-in-Some-clause-ok
returns-in-Some-clause-ok g c =
    let o = c.self.inside in
    let is = c.asked_by-asked.ensures (world_of o.step o.nodes (listed_of o.lists))
    (ap (flat_map items_of) (sym c.deref.ensures.value)) in
    let cause =
    sym (found_cause o.server o.step o.nodes (listed_of o.lists) c.args.self.now c.self.view_is c.self.invariant
    c.args.n (event_of c.args.event.now) (option_map asked_of c.asked_by-asked.result) c.requires.at is)
    ∙ sym c.fault.ensures
    ∙ c.in-Some.is in
    subst (λ t. IsStepped c.args.self.now (event_of c.args.event.now) t c.refuse.new.self) (sym c.refuse.ensures.told)
    (c.refuse.ensures.stepped (event_of c.args.event.now) cause)

pub act-requires-clause-cause : goal.act-requires-clause-cause
act-requires-clause-cause g c =
    let o = c.self.inside in
    let is = c.asked_by-asked.ensures (world_of o.step o.nodes (listed_of o.lists))
    (ap (flat_map items_of) (sym c.deref.ensures.value)) in
    sym (found_cause o.server o.step o.nodes (listed_of o.lists) c.args.self.now c.self.view_is c.self.invariant
    c.args.n (event_of c.args.event.now) (option_map asked_of c.asked_by-asked.result) c.requires.at is)
    ∙ sym c.fault.ensures
    ∙ c.in-None.is
