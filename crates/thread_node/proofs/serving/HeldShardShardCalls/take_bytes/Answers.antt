use Rattle.std.proofs.Common.{◌≡◌, ℕ, List, ◌++◌, subst}
use Rattle.node_threads.specs.AtWork.{AtWork}
use Rattle.thread_node.specs.Held.{Takes}
use Rattle.thread_node.proofs.Working.{takes_so, takes_shard}
use Rattle.thread_node.proofs.serving.HeldShardShardCalls.take_bytes.Goals as goal

pub returns-clause-taken : goal.returns-clause-taken
returns-clause-taken g c =
    subst
    (λ (old : AtWork). (bytes : List ℕ)
    × (c.take_bytes.new.out.items ≡ c.args.out.now.items ++ bytes)
    × Takes old c.args.conn c.args.count bytes c.take_bytes.new.self)
    c.deref_mut-shard.ensures.value
    (takes_so c.deref_mut-shard.result.now c.args.conn c.args.count c.args.out.now.items c.take_bytes.new.out.items
    c.take_bytes.result c.take_bytes.new.self c.take_bytes.ensures)

pub returns-clause-number : goal.returns-clause-number
returns-clause-number g c =
    subst (λ (old : AtWork). c.take_bytes.new.self.part.shard ≡ old.part.shard) c.deref_mut-shard.ensures.value
    (takes_shard c.deref_mut-shard.result.now c.args.conn c.args.count c.args.out.now.items
    c.take_bytes.new.out.items c.take_bytes.result c.take_bytes.new.self c.take_bytes.ensures)
