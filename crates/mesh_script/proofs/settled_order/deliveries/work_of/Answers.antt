use Rattle.std.proofs.Common.{map, ap, ◌∙◌, subst, arith}
use Rattle.std.proofs.lemmas.Result.{IfOk-weaker}
use Rattle.hub_core.specs.Chosen.{publication_by}
use Rattle.cluster_world.specs.InCode.{event_of}
use Rattle.cluster_world.specs.Planned.{IsPlannedBy}
use Rattle.mesh_script.specs.Owed.{events_in}
use Rattle.mesh_script.proofs.settled_order.Owing.{none_owed, plan_owed}
use Rattle.mesh_script.proofs.settled_order.deliveries.work_of.Goals as goal

pub returns-in-None : goal.returns-in-None
returns-in-None g c =
    let v = c.args.world.now in
    let p = publication_by c.args.conn c.args.publication.now c.args.word in
    ap (map event_of) c.new.ensures.items
    ∙ none_owed v c.args.node p (subst (IsPlannedBy v c.args.node p) c.in-None.is c.in_ok-planned.ensures)

pub returns-in-Some : goal.returns-in-Some
returns-in-Some g c =
    let v = c.args.world.now in
    let n = c.args.node in
    let p = publication_by c.args.conn c.args.publication.now c.args.word in
    let plan = c.in-Some.plan in
    let shards = c.shards.ensures in
    let planned = subst (IsPlannedBy v n p) c.in-Some.is c.in_ok-planned.ensures in
    IfOk-weaker c.order_of.result _ _
    (λ order all.
    plan_owed v n p plan c.names.result.now c.shards.result c.in_ok-first.first (events_in order) planned
    c.names.ensures shards.same (omega (arith, shards.same, shards.some)) c.in_ok-first.ensures all)
    c.order_of.ensures
