use Rattle.std.proofs.Common.{◌≡◌, ◌++◌}
use Rattle.std.specs.Prelude.{flat_map}
use Rattle.thread_report.proofs.passes_told.all_calls.Given as goal

abbrev pub invariant-loop-pass : goal.invariant-loop-pass
invariant-loop-pass g l =
    (l.all.items ≡ flat_map (λ pass. pass.calls) l.yielded)
    × (l.yielded ++ l.pass-iterator.rest.items ≡ l.initial.pass-iterator.rest.items)
