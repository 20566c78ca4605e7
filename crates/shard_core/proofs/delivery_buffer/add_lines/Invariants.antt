use Rattle.std.proofs.Common.{◌≡◌, ◌++◌, map, take}
use Rattle.shard_core.specs.Owed.{slow_consumer}
use Rattle.shard_core.specs.Puts.{put_line}
use Rattle.shard_core.proofs.delivery_buffer.add_lines.Given as goal

abbrev pub invariant-loop-conn : goal.invariant-loop-conn
invariant-loop-conn l = l.put.items ≡ l.fn.put.items ++ map (put_line slow_consumer) (take l.conn-index l.shut)
