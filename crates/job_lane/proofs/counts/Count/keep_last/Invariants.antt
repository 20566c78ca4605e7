use Rattle.std.proofs.Common.{◌≡◌, ◌-◌, length, drop}
use Rattle.job_lane.proofs.counts.Count.keep_last.Given as goal

abbrev pub invariant-loop-forgotten : goal.invariant-loop-forgotten
invariant-loop-forgotten l =
    (l.self.most ≡ l.fn.self.most)
    × (l.self.lengths ≡ drop l._forgotten l.fn.self.lengths)
    × (l.forgotten ≡ length l.fn.self.lengths - l.runs)
