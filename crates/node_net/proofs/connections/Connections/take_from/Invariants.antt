-- What was taken up to where the loop is.
use Rattle.node_net.specs.Taking.{all_parts, keys_of}
use Rattle.node_net.proofs.TakingLemmas.{TakenTo}
use Rattle.node_net.proofs.connections.Connections.take_from.Given as goal

abbrev pub invariant-loop-place : goal.invariant-loop-place
invariant-loop-place g l =
    TakenTo g.H.ShardCalls.takes g.H.ShardCalls.number (keys_of l.awaited) l.from l.place l.fn.self.table l.fn.shard
    (all_parts l.fn.taken) l.self.table l.shard (all_parts l.taken)
