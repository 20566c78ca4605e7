use Rattle.std.proofs.Common.{true, [], subst}
use Rattle.node_threads.specs.AtWork.{Makes, seen_as}
use Rattle.node_threads.proofs.Shards.Working.{pops}
use Rattle.node_threads.proofs.shard_state.ShardState.has_next.Goals as goal

pub returns-clause-makes : goal.returns-clause-makes
returns-clause-makes g c =
    let s = c.self.inside in
    let p = c.in-Some.ensures in
    subst (λ w. Makes w [] (seen_as s.shard.state s.seat.part c.pop.new.self.popped c.pop.new.self.hand true))
    c.self.view_is
    (pops s.shard.state s.seat.part s.lane.popped c.pop.new.self.popped s.lane.hand c.pop.new.self.hand s.waits p.some.0
    c.if-self.false p.some.1 p.some.2)
