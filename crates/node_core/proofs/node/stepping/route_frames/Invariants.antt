use Rattle.std.proofs.Common.{◌≡◌, ◌++◌, length, map}
use Rattle.route_values.specs.declared.frames.RouteFrame.TheVariants.{Numbered}
use Rattle.node_core.proofs.node.stepping.route_frames.Given as goal

abbrev pub invariant-loop-frame : goal.invariant-loop-frame
invariant-loop-frame l = l.frames.items ++ map Numbered l.waiting.items ≡ map Numbered l.fn.numbered.items

abbrev pub decreases-loop-frame : goal.decreases-loop-frame
decreases-loop-frame l = length l.waiting.items
