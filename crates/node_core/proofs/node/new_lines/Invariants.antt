use Rattle.std.proofs.Common.{◌≡◌}
use Rattle.node_law.specs.State.{lines_from}
use Rattle.node_core.proofs.node.new_lines.Given as goal

abbrev pub invariant-loop-made : goal.invariant-loop-made
invariant-loop-made g l = l.lines.items ≡ lines_from l.shards 1 l.made
