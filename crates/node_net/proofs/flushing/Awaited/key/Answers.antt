use Rattle.std.proofs.Common.{arith}
use Rattle.node_net.proofs.TakingLemmas.{key_all, key_none}
use Rattle.node_net.proofs.flushing.Awaited.key.Goals as goal

pub returns-in-All : goal.returns-in-All
returns-in-All c = key_all c.args.self c.in-All.count c.args.place c.in-All.is c.if-place-count.true

pub returns-in-All-2 : goal.returns-in-All-2
returns-in-All-2 c =
    key_none c.args.self c.in-All.count c.args.place c.in-All.is (omega (arith, c.if-place-count.false))

pub returns-in-These : goal.returns-in-These
returns-in-These c = rw c.in-These.is c.key_at.ensures
