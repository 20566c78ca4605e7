use Rattle.std.proofs.Common.{map}
use Rattle.cluster_world.specs.InCode.{started_of}
use Rattle.cluster_world.proofs.lists.Lists.keep.Goals as goal

pub returns-clause-lists : goal.returns-clause-lists
returns-clause-lists c = λ i. record {
  started = map started_of c.args.self.now.started.items;
  publications = c.keep_all.ensures.publications i;
  lives = c.keep_all.ensures.lives i;
  placements = c.keep_all.ensures.placements i;
  entered = c.keep_all.ensures.entered i;
  sent = c.keep_all.ensures.sent i;
}
