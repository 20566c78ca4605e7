use Rattle.std.proofs.Common.{◌≡◌, take}
use Rattle.shard_core.specs.Closings.{ended_ids}
use Rattle.shard_core.proofs.delivery_buffer.sub_ids.Given as goal

abbrev pub invariant-loop-serial : goal.invariant-loop-serial
invariant-loop-serial l = l.names.items ≡ ended_ids l.shard (take l.serial-index l.serials)
