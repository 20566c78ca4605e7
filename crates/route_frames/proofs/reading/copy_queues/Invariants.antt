use Rattle.std.proofs.Common.{◌≡◌, ◌++◌, length}
use Rattle.route_frames.specs.TextViews.{names_view}
use Rattle.route_frames.proofs.reading.copy_queues.Given as goal

-- the copies so far and those that are left are all
abbrev pub invariant-loop-name : goal.invariant-loop-name
invariant-loop-name l = l.copies.items ++ names_view l.rest ≡ names_view l.names

abbrev pub decreases-loop-name : goal.decreases-loop-name
decreases-loop-name l = length (names_view l.rest)
