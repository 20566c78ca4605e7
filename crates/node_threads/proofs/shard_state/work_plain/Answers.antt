use Rattle.std.proofs.Common.{◌<◌, arith}
use Rattle.node_threads.proofs.Shards.RunSteps.{delivered_first, none_delivered}
use Rattle.node_threads.proofs.shard_state.work_plain.Goals as goal

pub returns-then-count-eq0-clause-works : goal.returns-then-count-eq0-clause-works
returns-then-count-eq0-clause-works g c =
    none_delivered c.args.jobs.now c.deliver_first-count.result c.args.shard.now.state
    c.deliver_first-count.new.shard.state c.args.seat.now.part c.deliver_first-count.ensures.delivers
    c.if-count-eq0.true

pub returns-clause-works : goal.returns-clause-works
returns-clause-works g c =
    let count = c.deliver_first-count.result in
    let some : 0 < count = omega arith in
    delivered_first c.runs_are_worked.ensures c.args.jobs.now count c.args.shard.now.state
    c.deliver_first-count.new.shard.state c.args.seat.now.part c.finish_many.new.seat.part
    c.deliver_first-count.ensures.delivers some c.finish_many.ensures.part
