use Rattle.std.proofs.Common.{◌≤◌, ◌<◌, ◌-◌}
use Rattle.job_block.proofs.Runs.{GoOnTo}
use Rattle.job_block.proofs.slices.JobSlice.run_len.Given as goal

abbrev pub invariant-loop-end : goal.invariant-loop-end
invariant-loop-end l =
    let slice = l.self-inside in
    (slice.start < l.end) × (l.end ≤ slice.end) × GoOnTo slice.block.now.jobs slice.start l.end

abbrev pub decreases-loop-end : goal.decreases-loop-end
decreases-loop-end l = l.self-inside.end - l.end
