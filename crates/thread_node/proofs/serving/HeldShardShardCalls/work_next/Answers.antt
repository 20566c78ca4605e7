use Rattle.std.proofs.Common.{◌≡◌, subst}
use Rattle.node_threads.specs.AtWork.{AtWork}
use Rattle.thread_node.proofs.Working.{turns_shard}
use Rattle.thread_node.proofs.serving.HeldShardShardCalls.work_next.Goals as goal

pub returns-clause-number : goal.returns-clause-number
returns-clause-number g c =
    subst (λ (old : AtWork). c.turn.new.self.part.shard ≡ old.part.shard) c.deref_mut-shard.ensures.value
    (turns_shard c.deref_mut-shard.result.now c.turn.result c.turn.new.self c.turn.ensures)
