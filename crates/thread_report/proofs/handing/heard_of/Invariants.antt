use Rattle.std.proofs.Common.{◌≡◌, take, map}
use Rattle.thread_report.specs.Handing.{deltas_heard}
use Rattle.thread_report.proofs.handing.heard_of.Given as goal

abbrev pub invariant-loop-entry : goal.invariant-loop-entry
invariant-loop-entry l = map (λ deltas. deltas.now) l.all.items ≡ deltas_heard l.number (take l.entry-index l.hub)
