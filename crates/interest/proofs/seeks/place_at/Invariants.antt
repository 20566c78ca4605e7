use Rattle.std.proofs.Common.{◌≡◌, ◌-◌, ◌<◌, ◌≤◌, length, true, get_or}
use Rattle.subj.specs.QueueNames.{is_before}
use Rattle.interest.specs.Sights.{text_of}
use Rattle.interest.proofs.seeks.place_at.Given as goal

abbrev pub invariant-loop-high : goal.invariant-loop-high
invariant-loop-high g l =
    (l.place ≤ l.low)
    × (l.low < l.high)
    × (l.high ≤ length l.entries)
    × ((d : g.row.T.Denot) → l.place < l.low
    → is_before (g.T.Keyed.entry (get_or l.entries l.low d)).0.pattern (text_of l.beginning) ≡ true)

abbrev pub decreases-loop-high : goal.decreases-loop-high
decreases-loop-high g l = l.high - l.low
