use Rattle.std.proofs.Common.{◌≡◌, ◌+◌, length}
use Rattle.route_frames.specs.TextViews.{names_view}
use Rattle.route_frames.proofs.line_reading.Names.len.Given as goal

-- those that were counted, and those that are left
abbrev pub invariant-loop-others : goal.invariant-loop-others
invariant-loop-others l = l.len + length (names_view l.rest) ≡ length (names_view l.fn.self)

abbrev pub decreases-loop-others : goal.decreases-loop-others
decreases-loop-others l = length (names_view l.rest)
