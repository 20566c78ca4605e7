use Rattle.std.proofs.Common.{◌≡◌, ◌∷◌, length, drop}
use Rattle.route_frames.specs.TextViews.{names_view}
use Rattle.route_frames.proofs.line_reading.split_last.Given as goal

-- the last field so far, and those of the rest behind it
abbrev pub invariant-loop-field : goal.invariant-loop-field
invariant-loop-field l = drop l.count (names_view l.fn.fields) ≡ l.last ∷ names_view l.rest

abbrev pub decreases-loop-field : goal.decreases-loop-field
decreases-loop-field l = length (names_view l.rest)
