use Rattle.std.proofs.Common.{◌≡◌, take}
use Rattle.shard_core.specs.Members.{found_of}
use Rattle.shard_core.specs.Tallies.{lent_subs}
use Rattle.shard_core.proofs.openings.Openings.subs_of_mark.Given as goal

abbrev pub invariant-loop-member : goal.invariant-loop-member
invariant-loop-member g l = lent_subs l.subs.items ≡ found_of l.self.subs l.mark (take l.member-index l.members)
