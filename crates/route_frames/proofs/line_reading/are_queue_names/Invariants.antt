use Rattle.std.proofs.Common.{◌≡◌, length}
use Rattle.std.specs.List.{list_all}
use Rattle.route_frames.specs.NumberedLines.{is_queue_name}
use Rattle.route_frames.specs.TextViews.{names_view}
use Rattle.route_frames.proofs.line_reading.are_queue_names.Given as goal

-- what is left decides as the whole does
abbrev pub invariant-loop-name : goal.invariant-loop-name
invariant-loop-name l = list_all is_queue_name (names_view l.names) ≡ list_all is_queue_name (names_view l.fn.names)

abbrev pub decreases-loop-name : goal.decreases-loop-name
decreases-loop-name l = length (names_view l.names)
