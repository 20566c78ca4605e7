use Rattle.std.proofs.Common.{◌∙◌, sym, subst}
use Rattle.world_law.specs.Events.{Start}
use Rattle.cluster_world.specs.Value.{listed_of, IsStepped}
use Rattle.cluster_world.proofs.Clusters.Kept.{start_cause}
use Rattle.cluster_world.proofs.world.World.start.Goals as goal

pub refuse-requires-clause-cause : goal.refuse-requires-clause-cause
refuse-requires-clause-cause g c =
    let o = c.self.inside in (
      Start c.args.n c.args.inc,
      sym (start_cause o.server o.step o.nodes (listed_of o.lists) c.args.self.now c.self.view_is c.self.invariant
          c.args.n c.args.inc) ∙ sym c.start_fault.ensures ∙ c.in-Some.is,
    )

pub returns-in-Some-clause-ok : goal.returns-in-Some-clause-ok
returns-in-Some-clause-ok g c =
    let o = c.self.inside in
    let cause =
    sym (start_cause o.server o.step o.nodes (listed_of o.lists) c.args.self.now c.self.view_is c.self.invariant
    c.args.n c.args.inc)
    ∙ sym c.start_fault.ensures
    ∙ c.in-Some.is in
    subst (λ t. IsStepped c.args.self.now (Start c.args.n c.args.inc) t c.refuse.new.self) (sym c.refuse.ensures.told)
    (c.refuse.ensures.stepped (Start c.args.n c.args.inc) cause)

pub bring_up-requires-clause-cause : goal.bring_up-requires-clause-cause
bring_up-requires-clause-cause g c =
    let o = c.self.inside in
    sym (start_cause o.server o.step o.nodes (listed_of o.lists) c.args.self.now c.self.view_is c.self.invariant
    c.args.n c.args.inc)
    ∙ sym c.start_fault.ensures
    ∙ c.in-None.is
