-- No CR LF lies before the place from which the search goes on.
use Rattle.std.proofs.Common.{◌-◌, ◌≤◌, length}
use Rattle.wire_cut.specs.Search.{HasNoCrLf}
use Rattle.wire_cut.proofs.cutter.find_cr_lf.Given as goal

abbrev pub invariant-loop-offset : goal.invariant-loop-offset
invariant-loop-offset l = (l.from ≤ length l.bytes) × HasNoCrLf l.bytes l.from

abbrev pub decreases-loop-offset : goal.decreases-loop-offset
decreases-loop-offset l = length l.bytes - l.from
