use Rattle.std.proofs.Common.{ℕ, ◌<◌, All, take}
use Rattle.std.specs.Prelude.{slice_index_or}
use Rattle.thread_report.specs.declared.passes.Call.{Call}
use Rattle.thread_report.specs.Owed.{Precedes}
use Rattle.thread_report.proofs.Orders.{AreBelow}
use Rattle.thread_report.proofs.order.are_rising.Given as goal

abbrev pub invariant-loop-call : goal.invariant-loop-call
invariant-loop-call l =
    ((k : ℕ) (d : Call) → k < l.call-index → All (λ c. Precedes c (slice_index_or l.calls k d)) (take k l.calls))
    × AreBelow l.least (take l.call-index l.calls)
