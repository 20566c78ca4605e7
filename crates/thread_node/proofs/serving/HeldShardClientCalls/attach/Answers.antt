use Rattle.std.proofs.Common.{Err, sym, subst}
use Rattle.client_calls.specs.Calls.{attached}
use Rattle.thread_node.specs.Held.{MadeByShard}
use Rattle.thread_node.proofs.Holding.{attaches_none}
use Rattle.thread_node.proofs.serving.HeldShardClientCalls.attach.Goals as goal

pub returns-in-Err : goal.returns-in-Err
returns-in-Err g c =
    subst (λ old. MadeByShard old (attached (Err c.refused.result)) c.attach.new.self) c.deref_mut-shard.ensures.value
    (subst (λ f. MadeByShard c.deref_mut-shard.result.now (attached (Err f)) c.attach.new.self) (sym c.refused.ensures)
    (attaches_none c.deref_mut-shard.result.now c.in-Err.fault c.attach.new.self c.in-Err.ensures))
