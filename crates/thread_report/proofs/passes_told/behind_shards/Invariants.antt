use Rattle.std.proofs.Common.{◌≡◌, ◌++◌, length, map, take}
use Rattle.thread_report.specs.Owed.{owed_by_shards}
use Rattle.thread_report.proofs.passes_told.behind_shards.Given as goal

abbrev pub invariant-loop-place : goal.invariant-loop-place
invariant-loop-place g l =
    l.calls ≡ owed_by_shards (length l.worked) 1 (map (λ entries. entries.items) (take l.place l.worked)) ++ l.rest
