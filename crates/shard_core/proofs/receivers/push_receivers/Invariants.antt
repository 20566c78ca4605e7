use Rattle.std.proofs.Common.{◌≡◌, ◌++◌, take}
use Rattle.shard_core.specs.Received.{receivers_of}
use Rattle.shard_core.specs.Tallies.{lent_subs}
use Rattle.shard_core.proofs.receivers.push_receivers.Given as goal

abbrev pub invariant-loop-sub : goal.invariant-loop-sub
invariant-loop-sub l =
    l.receivers.items ≡ l.fn.receivers.items ++ receivers_of l.subject (lent_subs (take l.sub-index l.matching))
