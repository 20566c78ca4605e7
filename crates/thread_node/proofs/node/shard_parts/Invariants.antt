use Rattle.std.proofs.Common.{◌≡◌, ◌++◌, All, map}
use Rattle.thread_node.specs.Parts.{IsFreshLane}
use Rattle.thread_node.proofs.node.shard_parts.Given as goal

abbrev pub invariant-loop-seat : goal.invariant-loop-seat
invariant-loop-seat l =
    (map (λ p. p.seat) l.shards.items ++ l.seat-iterator.rest.items ≡ l.initial.seat-iterator.rest.items)
    × All (λ p. IsFreshLane p.near p.far) l.shards.items
