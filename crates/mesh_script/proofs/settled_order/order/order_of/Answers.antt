use Rattle.std.proofs.lemmas.Result.{IfOk-weaker}
use Rattle.mesh_script.specs.Owed.{events_in}
use Rattle.mesh_script.proofs.settled_order.Orders.{planned_is_whole}
use Rattle.mesh_script.proofs.settled_order.order.order_of.Goals as goal

pub returns : goal.returns
returns c =
    let o = c.args.origin.now in
    IfOk-weaker c.planned.result _ _
    (λ order is.
    planned_is_whole c.some_order_is_right.ensures o.node o.names.now o.shards o.first c.args.plan.now (events_in order)
    is)
    c.planned.ensures
