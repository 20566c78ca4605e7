use Rattle.node_parts.proofs.side.tell.Goals as goal

pub returns : goal.returns
returns c = c.collect.ensures c.args.shard
