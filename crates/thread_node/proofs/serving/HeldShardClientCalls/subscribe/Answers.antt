use Rattle.std.proofs.Common.{subst}
use Rattle.shard_core.specs.ShardEvents.{Subscribe}
use Rattle.thread_node.specs.Held.{Steps}
use Rattle.thread_node.proofs.Holding.{subscribes_so}
use Rattle.thread_node.proofs.serving.HeldShardClientCalls.subscribe.Goals as goal

pub returns-in-Ok : goal.returns-in-Ok
returns-in-Ok g c =
    subst
    (λ old. Steps old (Subscribe c.args.conn c.args.key.now c.args.sid.now) c.outcome_of.result c.subscribe.new.self)
    c.deref_mut-shard.ensures.value
    (subscribes_so c.deref_mut-shard.result.now c.args.conn c.args.key.now c.in-Ok.key c.args.sid.now c.in-Ok.sid
    c.subscribe.result c.outcome_of.result c.subscribe.new.self c.in-Ok.ensures.0 c.in-Ok.ensures.1 c.outcome_of.ensures
    c.subscribe.ensures)
