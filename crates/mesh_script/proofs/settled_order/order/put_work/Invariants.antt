use Rattle.std.proofs.Common.{◌≡◌, ◌++◌, ◌-◌}
use Rattle.settled_law.specs.Orders.{claims_from, work_events}
use Rattle.mesh_script.specs.Owed.{events_in}
use Rattle.mesh_script.proofs.settled_order.order.put_work.Given as goal

-- the Begin and the Claims so far were put, and the rest is left
abbrev pub invariant-loop-index : goal.invariant-loop-index
invariant-loop-index l =
    events_in l.events ++ claims_from l.node l.shard l.index (l.names - l.index)
    ≡ events_in l.fn.events ++ work_events l.node l.shard l.names
