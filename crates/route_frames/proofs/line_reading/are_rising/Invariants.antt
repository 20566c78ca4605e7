use Rattle.std.proofs.Common.{◌≡◌, length}
use Rattle.subj.specs.QueueNames.{are_rising}
use Rattle.route_frames.specs.TextViews.{names_view}
use Rattle.route_frames.proofs.line_reading.are_rising.Given as goal

-- what is left decides as the whole does
abbrev pub invariant-loop-name : goal.invariant-loop-name
invariant-loop-name l = are_rising (names_view l.names) ≡ are_rising (names_view l.fn.names)

abbrev pub decreases-loop-name : goal.decreases-loop-name
decreases-loop-name l = length (names_view l.names)
