use Rattle.std.proofs.Common.{◌≡◌, ◌+◌, [], All, length, vec_len}
use Rattle.thread_node.specs.Parts.{IsNamed}
use Rattle.thread_node.proofs.node.locked_shards.Given as goal

abbrev pub invariant-loop-part : goal.invariant-loop-part
invariant-loop-part g l =
    All (IsNamed g.N.NodeName.race g.N.NodeName.lanes) l.part-iterator.rest.items
    × (vec_len l.lines + length l.part-iterator.rest.items ≡ length l.initial.part-iterator.rest.items)
    × (vec_len l.shards ≡ vec_len l.lines)
    × All (λ line. line.pushed ≡ []) l.lines.items
