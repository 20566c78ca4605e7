use Rattle.std.proofs.Common.{◌+◌, ◌-◌, arith}
use Rattle.settled_law.specs.Orders.{work_events, works_from}
use Rattle.mesh_script.specs.Owed.{events_in}
use Rattle.mesh_script.proofs.settled_order.Orders.{works_first, works_next, works_end, put_on, put_all}
use Rattle.mesh_script.proofs.settled_order.order.put_works.Goals as goal

pub loop-place-init : goal.loop-place-init
loop-place-init c = works_first c.args.node c.args.shards c.args.names (events_in c.args.events.now)

pub loop-place-preserved : goal.loop-place-preserved
loop-place-preserved c =
    let n = c.args.node in
    let shards = c.args.shards in
    let names = c.args.names in
    let i = c.loop-place.place in
    put_on (events_in c.loop-place.events) (events_in c.put_work.new.events) (work_events n (i + 1) names)
    (works_from n (i + 1) (shards - (i + 1)) names) (works_from n i (shards - i) names) _ c.loop-place.invariant
    (works_next n i shards names (omega (arith, c.loop-place-test.true, c.loop-place.auto.place-end)))
    c.in_ok-put_work.ensures

pub returns : goal.returns
returns c =
    put_all (events_in c.loop-place.events) _ _ c.loop-place.invariant
    (works_end c.args.node c.loop-place.place c.args.shards c.args.names
    (omega (arith, c.loop-place-test.false, c.loop-place.auto.place-end)))
