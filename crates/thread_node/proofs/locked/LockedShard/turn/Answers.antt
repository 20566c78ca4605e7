use Rattle.node_threads.proofs.Shards.Telling.{tape_more}
use Rattle.thread_node.proofs.locked.LockedShard.turn.Goals as goal

pub invariant_of-self : goal.invariant_of-self
invariant_of-self g c =
    let s = c.self.inside in
    let i = c.self.invariant in
    let shards = g.N.NodeName.race.shards in
    (i.0, tape_more shards s.state c.turn.new.self s.tape c.turn.new.tape i.1 c.turn.ensures.tells)
