use Rattle.thread_node.proofs.Telling.{tape_starts}
use Rattle.thread_node.proofs.locked.LockedShard.new.Goals as goal

pub invariant_of-result : goal.invariant_of-result
invariant_of-result g c = (
  c.requires.race,
  tape_starts g.N.NodeName.race.shards c.args.state c.args.keep c.new.result c.requires.fresh c.new.ensures,
)
