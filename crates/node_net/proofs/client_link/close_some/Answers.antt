use Rattle.node_net.specs.Holds.{names_of}
use Rattle.node_net.proofs.HoldLemmas.{one_more}
use Rattle.node_net.proofs.client_link.close_some.Goals as goal

pub loop-preserved : goal.loop-preserved
loop-preserved g c =
    one_more g.S.ClientCalls.made c.args.id (names_of c.args.sids.now) c.args.shard.now (names_of c.loop.sids)
    c.loop.shard c.in-Some.sid c.unsubscribe-closed.result (names_of c.pop.new.self) c.unsubscribe-closed.new.self
    c.loop.counter c.loop.invariant c.in-Some.ensures c.unsubscribe-closed.ensures
