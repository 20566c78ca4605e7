use Rattle.std.proofs.Common.{◌≡◌, ◌++◌, take}
use Rattle.shard_core.specs.Members.{members_of}
use Rattle.shard_core.specs.Tallies.{lent_subs}
use Rattle.shard_core.proofs.members.push_members.Given as goal

abbrev pub invariant-loop-sub : goal.invariant-loop-sub
invariant-loop-sub l = l.members.items ≡ l.fn.members.items ++ members_of (lent_subs (take l.sub-index l.matching))
