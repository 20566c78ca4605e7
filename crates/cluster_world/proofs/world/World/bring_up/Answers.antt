use Rattle.std.proofs.Common.{◌≤◌, ◌∙◌, None, sym, ap, subst}
use Rattle.std.proofs.lemmas.Option.{same_Some, slice_get_within}
use Rattle.node_law.specs.Answers.{Nothing}
use Rattle.world_law.specs.Events.{Start}
use Rattle.world_law.specs.Outcomes.{Done}
use Rattle.world_law.specs.State.{server_at}
use Rattle.cluster_world.specs.Value.{listed_of, cluster_of, value_of_parts, with_start, IsKept, IsStepped}
use Rattle.cluster_world.proofs.Clusters.Kept.{start_at, start_within, start_steps, start_keeps}
use Rattle.cluster_world.proofs.Clusters.Starting.{server_there}
use Rattle.cluster_world.proofs.world.World.bring_up.Goals as goal

pub put-requires : goal.put-requires
put-requires g c =
    let o = c.self.inside in
    slice_get_within o.nodes c.args.n None
    (start_at o.server o.step o.nodes (listed_of o.lists) c.args.self.now c.self.view_is c.self.invariant c.args.n
    c.args.inc c.requires.cause)

pub invariant_of-self-2 : goal.invariant_of-self-2
invariant_of-self-2 g c =
    let o = c.self.inside in
    let n = c.args.n in
    let inc = c.args.inc in
    let l = listed_of c.add_start.new.self in
    let within = start_within o.server o.step o.nodes (listed_of o.lists) c.args.self.now c.self.view_is
    c.self.invariant n inc c.requires.cause in
    let made = same_Some c.in-Some.server (server_at (cluster_of o.server) n inc)
    (sym c.in-Some.is ∙ c.in_ok-server.ensures ∙ server_there o.server n inc c.self.invariant.tested within) in
    let some = subst (λ k. 1 ≤ k) c.get-first.ensures.same c.get-first.ensures.least in
    subst (λ t. IsKept o.server t (value_of_parts o.server c.args.now t l)) (sym c.put.ensures)
    (start_keeps o.server o.step o.nodes (listed_of o.lists) c.args.self.now c.self.view_is c.self.invariant
    c.steps_keep_worlds_carried.ensures n inc c.args.now c.in-Some.server c.in-Ok.node l c.requires.now some
    c.requires.cause made c.in-Ok.ensures (c.add_start.ensures ∙ ap (with_start n inc) c.make_start_room.ensures.same))

pub returns-clause-ok : goal.returns-clause-ok
returns-clause-ok g c =
    let o = c.self.inside in
    let n = c.args.n in
    let inc = c.args.inc in
    let l = listed_of c.add_start.new.self in
    let within = start_within o.server o.step o.nodes (listed_of o.lists) c.args.self.now c.self.view_is
    c.self.invariant n inc c.requires.cause in
    let made = same_Some c.in-Some.server (server_at (cluster_of o.server) n inc)
    (sym c.in-Some.is ∙ c.in_ok-server.ensures ∙ server_there o.server n inc c.self.invariant.tested within) in
    let some = subst (λ k. 1 ≤ k) c.get-first.ensures.same c.get-first.ensures.least in
    subst (λ t. IsStepped c.args.self.now (Start n inc) (Done Nothing) (value_of_parts o.server c.args.now t l))
    (sym c.put.ensures)
    (start_steps o.server o.step o.nodes (listed_of o.lists) c.args.self.now c.self.view_is c.self.invariant n inc
    c.args.now c.in-Some.server c.in-Ok.node l c.requires.now some c.requires.cause made c.in-Ok.ensures
    (c.add_start.ensures ∙ ap (with_start n inc) c.make_start_room.ensures.same))
