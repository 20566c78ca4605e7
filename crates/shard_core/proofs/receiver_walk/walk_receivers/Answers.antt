use Rattle.std.proofs.lemmas.Result.{on_ok_weaker}
use Rattle.shard_core.proofs.Turns.Received.{received_by_none, received_whole}
use Rattle.shard_core.proofs.receiver_walk.walk_receivers.Goals as goal

pub returns-then-not-any_due-clause-ok : goal.returns-then-not-any_due-clause-ok
returns-then-not-any_due-clause-ok g c =
    received_by_none c.args.openings.now.subs c.args.job.now c.args.receivers.now c.args.conns.now.next
    c.args.buffer.now c.requires.receivers (c.any_due.ensures c.if-not-any_due.true)

pub returns-clause-ok : goal.returns-clause-ok
returns-clause-ok g c =
    on_ok_weaker c.put_each.result (received_whole c.args.openings.now.subs c.args.job.now _ _ _ _)
    c.put_each.ensures.ok
