use Rattle.std.proofs.Common.{◌≡◌, ◌+◌, ◌<◌, ℕ, List, map, Some}
use Rattle.std.specs.Prelude.{slice_get}
use Rattle.node_threads.specs.declared.shard_entries.ShardEntry.{ShardEntry}
use Rattle.thread_report.specs.Handing.{deltas_heard, deltas_given}
use Rattle.thread_report.proofs.handing.first_torn.Given as goal

abbrev pub invariant-loop-place : goal.invariant-loop-place
invariant-loop-place l =
    (k : ℕ) (tape : List ShardEntry)
    → k < l.place
    → slice_get (map (λ entries. entries.items) l.worked) k ≡ Some tape
    → deltas_heard (k + 1) l.hub ≡ deltas_given tape
