use Rattle.std.proofs.Common.{◌≡◌, take}
use Rattle.node_threads.proofs.shard_entries.Deltas.copy_of.Given as goal

-- as many copies as deltas were passed
abbrev pub invariant-loop-delta : goal.invariant-loop-delta
invariant-loop-delta l = l.items.items ≡ take l.delta-index l.deltas
