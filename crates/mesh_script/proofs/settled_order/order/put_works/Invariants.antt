use Rattle.std.proofs.Common.{◌≡◌, ◌++◌, ◌-◌}
use Rattle.settled_law.specs.Orders.{works_from}
use Rattle.mesh_script.specs.Owed.{events_in}
use Rattle.mesh_script.proofs.settled_order.order.put_works.Given as goal

abbrev pub invariant-loop-place : goal.invariant-loop-place
invariant-loop-place l =
    events_in l.events ++ works_from l.node l.place (l.shards - l.place) l.names
    ≡ events_in l.fn.events ++ works_from l.node 0 l.shards l.names
