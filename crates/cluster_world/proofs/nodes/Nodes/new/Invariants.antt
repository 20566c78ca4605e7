use Rattle.std.proofs.Common.{◌≡◌, None, replicate}
use Rattle.cluster_world.proofs.nodes.Nodes.new.Given as goal

abbrev pub invariant-loop : goal.invariant-loop
invariant-loop g l = l.slots.items ≡ replicate l.counter None
