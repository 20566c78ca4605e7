use Rattle.std.proofs.Common.{length}
use Rattle.route_values.specs.Valid.{AreRouteFrames}
use Rattle.route_values.proofs.frames.RouteFrame.all_can_be_spelt.Given as goal

-- all can be spelt where what is left can
abbrev pub invariant-loop-frame : goal.invariant-loop-frame
invariant-loop-frame l = AreRouteFrames l.frames → AreRouteFrames l.fn.frames

abbrev pub decreases-loop-frame : goal.decreases-loop-frame
decreases-loop-frame l = length l.frames
