use Rattle.std.proofs.Common.{List, All, map}
use Rattle.subj.specs.declared.jobs.Job.{Job}
use Rattle.node_threads.specs.Outlets.{AreFirst}
use Rattle.thread_report.specs.Reports.{AreClosed}
use Rattle.thread_report.proofs.report.close_shards.Given as goal

abbrev pub invariant-loop-line : goal.invariant-loop-line
invariant-loop-line g l =
    (issued : List Job)
    → All (λ line. AreFirst line.pushed issued) l.initial.line-iterator.a.rest.items
    → All (λ line. AreFirst line.pushed issued) l.line-iterator.a.rest.items
    × AreClosed g.N.NodeName.race issued l.keep l.closed.seats.items
    (map (λ entries. entries.items) l.closed.tapes.items)
