use Rattle.std.proofs.Common.{arith}
use Rattle.std.proofs.lemmas.Result.{IfOk-weaker}
use Rattle.hub_core.specs.Chosen.{publication_by}
use Rattle.mesh_script.specs.Owed.{events_in}
use Rattle.mesh_script.proofs.settled_order.Owing.{owed_is_right}
use Rattle.mesh_script.proofs.settled_order.deliveries.delivery.Goals as goal

pub returns-clause-right : goal.returns-clause-right
returns-clause-right g c =
    let v = c.args.world.now in
    let p = publication_by c.args.conn c.args.publication.now c.args.word in
    let shards = c.shards-shards.ensures in
    IfOk-weaker c.ready_work.result _ _
    (λ order is.
    owed_is_right c.some_order_is_right.ensures v.cluster v.world c.takes_where_settled.ensures
    (omega (arith, shards.same, shards.some)) c.args.node p (events_in order) is)
    c.ready_work.ensures
