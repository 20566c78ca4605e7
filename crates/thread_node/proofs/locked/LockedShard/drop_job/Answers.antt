use Rattle.node_threads.proofs.Shards.Telling.{tape_more}
use Rattle.thread_node.proofs.locked.LockedShard.drop_job.Goals as goal

pub invariant_of-self : goal.invariant_of-self
invariant_of-self g c =
    let s = c.self.inside in
    let i = c.self.invariant in
    let shards = g.N.NodeName.race.shards in
    (i.0, tape_more shards s.state c.drop_job.new.self s.tape c.drop_job.new.tape i.1 c.drop_job.ensures.tells)
