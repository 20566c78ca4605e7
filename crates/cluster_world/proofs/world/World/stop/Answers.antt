use Rattle.std.proofs.Common.{◌∙◌, sym, subst}
use Rattle.world_law.specs.Events.{Stop}
use Rattle.cluster_world.specs.Value.{listed_of, IsStepped}
use Rattle.cluster_world.proofs.Clusters.Kept.{stop_cause}
use Rattle.cluster_world.proofs.world.World.stop.Goals as goal

pub refuse-requires-clause-cause : goal.refuse-requires-clause-cause
refuse-requires-clause-cause g c =
    let o = c.self.inside in (
      Stop c.args.n,
      sym (stop_cause o.server o.step o.nodes (listed_of o.lists) c.args.self.now c.self.view_is c.self.invariant
          c.args.n) ∙ sym c.stop_fault.ensures ∙ c.in-Some.is,
    )

pub returns-in-Some : goal.returns-in-Some
returns-in-Some g c =
    let o = c.self.inside in
    let cause =
    sym
    (stop_cause o.server o.step o.nodes (listed_of o.lists) c.args.self.now c.self.view_is c.self.invariant c.args.n)
    ∙ sym c.stop_fault.ensures
    ∙ c.in-Some.is in
    subst (λ t. IsStepped c.args.self.now (Stop c.args.n) t c.refuse.new.self) (sym c.refuse.ensures.told)
    (c.refuse.ensures.stepped (Stop c.args.n) cause)

pub take_down-requires-clause-cause : goal.take_down-requires-clause-cause
take_down-requires-clause-cause g c =
    let o = c.self.inside in
    sym
    (stop_cause o.server o.step o.nodes (listed_of o.lists) c.args.self.now c.self.view_is c.self.invariant c.args.n)
    ∙ sym c.stop_fault.ensures
    ∙ c.in-None.is
