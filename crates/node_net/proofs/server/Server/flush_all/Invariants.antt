-- As many rounds were made as the loop has turned, up to this place.
use Rattle.std.proofs.Common.{◌≡◌}
use Rattle.node_net.specs.Taking.{keys_of}
use Rattle.node_net.proofs.TakingLemmas.{FlushedSoFar}
use Rattle.node_net.proofs.server.Server.flush_all.Given as goal

abbrev pub invariant-loop-round : goal.invariant-loop-round
invariant-loop-round g l =
    FlushedSoFar g.C.Shard.ShardCalls.takes g.C.Shard.ShardCalls.number (g.C.ServerCalls.lacks l.fn.self.node)
    g.S.Stream.gave g.S.Stream.wrote l.number (keys_of l.awaited) l.fn.self.connections l.self.connections l.place
    l._round
    × (l.self.node ≡ l.fn.self.node)
