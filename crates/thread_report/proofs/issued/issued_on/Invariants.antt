use Rattle.std.proofs.Common.{◌≡◌, ◌+◌, ◌≤◌, take}
use Rattle.thread_report.specs.Issued.{issued_on, owned_in}
use Rattle.thread_report.proofs.issued.issued_on.Given as goal

abbrev pub invariant-loop-entry : goal.invariant-loop-entry
invariant-loop-entry l =
    (l.next ≡ 1 + owned_in (take l.entry-index l.tape))
    × (l.next ≤ l.entry-index + 1)
    × (l.jobs.items ≡ issued_on 1 (take l.entry-index l.tape))
