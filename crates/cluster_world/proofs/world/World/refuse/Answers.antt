use Rattle.cluster_world.specs.Value.{listed_of}
use Rattle.cluster_world.proofs.Clusters.Kept.{refused_steps, refused_keeps}
use Rattle.cluster_world.proofs.world.World.refuse.Goals as goal

pub invariant_of-self : goal.invariant_of-self
invariant_of-self g c =
    let o = c.self.inside in
    refused_keeps o.server o.step o.nodes (listed_of o.lists) c.args.self.now c.self.view_is c.self.invariant
    c.steps_keep_worlds_carried.ensures c.requires.cause.0 c.args.fault c.args.now c.requires.now c.requires.cause.1

pub returns-clause-stepped : goal.returns-clause-stepped
returns-clause-stepped g c =
    let o = c.self.inside in
    λ e cause.
    refused_steps o.server o.step o.nodes (listed_of o.lists) c.args.self.now c.self.view_is c.self.invariant e
    c.args.fault c.args.now c.requires.now cause
