use Rattle.std.proofs.Common.{◌≡◌, ◌++◌, ◌-◌, length}
use Rattle.mesh_script.specs.Owed.{events_in, planned_order}
use Rattle.mesh_script.proofs.settled_order.order.planned.Given as goal

abbrev pub invariant-loop-node : goal.invariant-loop-node
invariant-loop-node l =
    events_in l.events
    ++ planned_order l.origin.names.now l.origin.shards l.origin.node (length l.plan.job.queues) l.origin.first
    l.plan.frames.items l.node (length l.origin.names.now - l.node)
    ≡ planned_order l.origin.names.now l.origin.shards l.origin.node (length l.plan.job.queues) l.origin.first
    l.plan.frames.items 0 (length l.origin.names.now)
