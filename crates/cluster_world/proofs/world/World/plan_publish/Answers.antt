use Rattle.std.proofs.Common.{subst}
use Rattle.std.proofs.lemmas.Result.{IfOk-weaker}
use Rattle.hub_core.specs.Chosen.{publication_by}
use Rattle.cluster_world.specs.Planned.{IsPlannedBy}
use Rattle.cluster_world.specs.Value.{Shown, listed_of}
use Rattle.cluster_world.proofs.Clusters.Planning.{planned_by}
use Rattle.cluster_world.proofs.world.World.plan_publish.Goals as goal

pub returns : goal.returns
returns g c =
    let o = c.self.inside in
    let p = publication_by c.args.conn c.args.publication.now c.args.word in
    IfOk-weaker c.plan.result _ _
    (λ plan planned.
    subst (λ (s : Shown). IsPlannedBy s c.args.node p plan) c.self.view_is
    (planned_by o.server o.step o.nodes (listed_of o.lists) c.self.invariant.places c.args.node p plan planned))
    c.plan.ensures
