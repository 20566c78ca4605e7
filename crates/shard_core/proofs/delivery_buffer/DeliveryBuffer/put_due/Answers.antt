use Rattle.shard_core.proofs.Turns.TallySteps.{walk_of_none}
use Rattle.shard_core.proofs.delivery_buffer.DeliveryBuffer.put_due.Goals as goal

pub returns-then-not-any_due-clause-ok : goal.returns-then-not-any_due-clause-ok
returns-then-not-any_due-clause-ok g c =
    walk_of_none c.args.openings.now.subs c.args.job.now c.args.matching.now c.args.conns.now.next c.args.self.now
    (c.any_due.ensures c.if-not-any_due.true)
