use Rattle.std.proofs.Common.{◌∙◌, sym, subst}
use Rattle.node_law.specs.Answers.{Nothing}
use Rattle.world_law.specs.Events.{Stop}
use Rattle.world_law.specs.Outcomes.{Done}
use Rattle.cluster_world.specs.Value.{listed_of, value_of_parts, IsKept, IsStepped}
use Rattle.cluster_world.proofs.Clusters.Kept.{stop_steps, stop_keeps}
use Rattle.cluster_world.proofs.world.World.take_down.Goals as goal

pub invariant_of-self : goal.invariant_of-self
invariant_of-self g c =
    let o = c.self.inside in
    let l = listed_of c.close_all.new.self in
    subst (λ t. IsKept o.server t (value_of_parts o.server c.args.now t l)) (sym c.put.ensures)
    (stop_keeps o.server o.step o.nodes (listed_of o.lists) c.args.self.now c.self.view_is c.self.invariant
    c.carried_lives_are_open.ensures c.steps_keep_worlds_carried.ensures c.args.n c.in-Some.inc c.args.now l
    c.requires.now c.requires.cause (sym c.in-Some.is ∙ c.inc_at.ensures) c.close_all.ensures)

pub returns : goal.returns
returns g c =
    let o = c.self.inside in
    let l = listed_of c.close_all.new.self in
    subst (λ t. IsStepped c.args.self.now (Stop c.args.n) (Done Nothing) (value_of_parts o.server c.args.now t l))
    (sym c.put.ensures)
    (stop_steps o.server o.step o.nodes (listed_of o.lists) c.args.self.now c.self.view_is c.self.invariant
    c.carried_lives_are_open.ensures c.args.n c.in-Some.inc c.args.now l c.requires.now c.requires.cause
    (sym c.in-Some.is ∙ c.inc_at.ensures) c.close_all.ensures)
