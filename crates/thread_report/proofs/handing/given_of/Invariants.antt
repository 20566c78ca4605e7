use Rattle.std.proofs.Common.{◌≡◌, take, map}
use Rattle.thread_report.specs.Handing.{deltas_given}
use Rattle.thread_report.proofs.handing.given_of.Given as goal

abbrev pub invariant-loop-entry : goal.invariant-loop-entry
invariant-loop-entry l = map (λ deltas. deltas.now) l.all.items ≡ deltas_given (take l.entry-index l.tape)
