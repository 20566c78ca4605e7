use Rattle.node_net.specs.Taking.{all_parts}
use Rattle.node_net.proofs.TakingLemmas.{takes_one, takes_no_one, not_both}
use Rattle.node_net.proofs.connections.Connections.take_one.Goals as goal

pub returns-then-not-is_of_shard : goal.returns-then-not-is_of_shard
returns-then-not-is_of_shard g c = λ none.
    takes_no_one g.H.ShardCalls.takes g.H.ShardCalls.number c.args.key c.shard.result c.args.self.now.table
    c.args.shard.now (all_parts c.args.taken.now) c.shard.ensures c.if-not-is_of_shard.ensures

pub returns-then-not-begin_part : goal.returns-then-not-begin_part
returns-then-not-begin_part g c = λ none.
    absurd (not_both c.args.taken.now.last c.if-not-begin_part.ensures.full.0 none)

pub returns : goal.returns
returns g c = λ none.
    takes_one g.H.ShardCalls.takes g.H.ShardCalls.number c.args.key c.args.self.now.table
    c.shut_if_slow-is_slow.new.self.table c.blame_if_slow.new.self.table c.args.shard.now c.lend-lent.new.shard
    (all_parts c.args.taken.now) c.begin_part.new.self.parts (all_parts c.put_part.new.taken)
    c.begin_part.new.self.lent.items c.lend-lent.new.lent.items c.begin_part.new.self.last
    c.shut_if_slow-is_slow.ensures c.blame_if_slow.ensures c.if-not-begin_part.ensures.begun.0
    c.if-not-begin_part.ensures.begun.1 c.if-not-begin_part.ensures.begun.2 c.lend-lent.ensures c.put_part.ensures
