use Rattle.std.proofs.Common.{◌≡◌, [], take}
use Rattle.std.specs.Prelude.{filter}
use Rattle.shard_core.specs.Tallies.{lent_subs, is_placed}
use Rattle.shard_core.proofs.delivery_buffer.any_due.Given as goal

abbrev pub invariant-loop-sub : goal.invariant-loop-sub
invariant-loop-sub l = filter (is_placed l.job) (lent_subs (take l.sub-index l.matching)) ≡ []
