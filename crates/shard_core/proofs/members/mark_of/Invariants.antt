use Rattle.std.proofs.Common.{◌≡◌, drop}
use Rattle.shard_core.specs.Members.{mark_of, mark_with}
use Rattle.shard_core.proofs.members.mark_of.Given as goal

abbrev pub invariant-loop-byte : goal.invariant-loop-byte
invariant-loop-byte l = mark_with l.mark (drop l.byte-index l.name) ≡ mark_of l.name
