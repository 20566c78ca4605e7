use Rattle.std.proofs.Common.{[], ◌∷◌, ◌+◌, ◌-◌, arith}
use Rattle.std.proofs.lemmas.Result.{on_ok_weaker}
use Rattle.node_law.specs.Events.{AtShard}
use Rattle.node_law.specs.declared.events.ShardWork.TheVariants.{Claim}
use Rattle.world_law.specs.Events.{At}
use Rattle.settled_law.specs.Orders.{claims_from}
use Rattle.mesh_script.specs.Owed.{events_in}
use Rattle.mesh_script.proofs.settled_order.Orders.{work_first, work_last, claims_next, put_on}
use Rattle.mesh_script.proofs.settled_order.order.put_work.Goals as goal

pub loop-index-init : goal.loop-index-init
loop-index-init c =
    work_first c.args.node c.args.shard c.args.names (events_in c.args.events.now) (events_in c.put_at.new.events)
    c.in_ok-put_at.ensures

pub loop-index-preserved : goal.loop-index-preserved
loop-index-preserved c =
    let n = c.args.node in
    let s = c.args.shard in
    let names = c.args.names in
    let i = c.loop-index.index in
    put_on (events_in c.loop-index.events) (events_in c.put_at-in-loop-index.new.events)
    (At n (AtShard s (Claim i)) ∷ []) (claims_from n s (i + 1) (names - (i + 1))) (claims_from n s i (names - i)) _
    c.loop-index.invariant
    (claims_next n s i names (omega (arith, c.loop-index-test.true, c.loop-index.auto.index-end)))
    c.in_ok-put_at-2.ensures

pub returns : goal.returns
returns c =
    on_ok_weaker c.put_at-2.result
    (work_last c.args.node c.args.shard c.loop-index.index c.args.names (events_in c.loop-index.events)
    (events_in c.put_at-2.new.events) _ (omega (arith, c.loop-index-test.false, c.loop-index.auto.index-end))
    c.loop-index.invariant)
    c.put_at-2.ensures
