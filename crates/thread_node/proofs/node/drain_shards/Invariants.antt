use Rattle.std.proofs.Common.{◌+◌, ◌-◌}
use Rattle.std.specs.List.{FoldsTo, range_with_len}
use Rattle.thread_node.specs.Drains.{Asks}
use Rattle.thread_node.proofs.node.drain_shards.Given as goal

-- what the calls that are still to come end in, all calls end in
abbrev pub invariant-loop-place : goal.invariant-loop-place
invariant-loop-place g l =
    goal.F-IsAlwaysCallable g l.drain
    × ((last : _)
    → FoldsTo (Asks (goal.F-step g)) (l.drain, l.is_new) (range_with_len (l.place + 1) (l.shards - l.place)) last
    → FoldsTo (Asks (goal.F-step g)) (l.fn.drain, l.initial.is_new) (range_with_len 1 l.fn.shards) last)
