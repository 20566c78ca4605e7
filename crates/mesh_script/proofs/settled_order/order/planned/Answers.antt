use Rattle.std.proofs.Common.{◌+◌, ◌-◌, ◌++◌, length, map, ap, ◌∙◌, arith}
use Rattle.cluster_world.specs.InCode.{event_of}
use Rattle.mesh_script.specs.Owed.{events_in, planned_node, planned_order}
use Rattle.mesh_script.proofs.settled_order.Orders.{nodes_first, nodes_next, nodes_end, put_on, put_all}
use Rattle.mesh_script.proofs.settled_order.order.planned.Goals as goal

pub loop-node-init : goal.loop-node-init
loop-node-init c =
    let o = c.args.origin.now in
    let plan = c.args.plan.now in
    ap (λ l.
    map event_of l
    ++ planned_order o.names.now o.shards o.node (length plan.job.queues) o.first plan.frames.items 0
    (length o.names.now - 0))
    c.new-events.ensures.items
    ∙ nodes_first o.names.now o.shards o.node (length plan.job.queues) o.first plan.frames.items (length o.names.now)

pub loop-node-preserved : goal.loop-node-preserved
loop-node-preserved c =
    let o = c.args.origin.now in
    let plan = c.args.plan.now in
    let own = length plan.job.queues in
    let frames = plan.frames.items in
    let count = length o.names.now in
    let i = c.loop-node.node in
    put_on (events_in c.loop-node.events) (events_in c.put_node.new.events)
    (planned_node o.names.now o.shards o.node own o.first frames i)
    (planned_order o.names.now o.shards o.node own o.first frames (i + 1) (count - (i + 1)))
    (planned_order o.names.now o.shards o.node own o.first frames i (count - i)) _ c.loop-node.invariant
    (nodes_next o.names.now o.shards o.node own o.first frames i count
    (omega (arith, c.loop-node-test.true, c.loop-node.auto.node-end)))
    c.in_ok-put_node.ensures

pub returns : goal.returns
returns c =
    let o = c.args.origin.now in
    let plan = c.args.plan.now in
    put_all (events_in c.loop-node.events) _ _ c.loop-node.invariant
    (nodes_end o.names.now o.shards o.node (length plan.job.queues) o.first plan.frames.items c.loop-node.node
    (length o.names.now) (omega (arith, c.loop-node-test.false, c.loop-node.auto.node-end)))
