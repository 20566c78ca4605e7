use Rattle.std.proofs.Common.{◌≡◌, ◌+◌, ◌≤◌, true, List, length, ◌++◌, vec_len, vec_capacity}
use Rattle.crossbeam_queue.specs.Passes.{view, IsPassOf}
use Rattle.subj.specs.declared.jobs.Job.{Job}
use Rattle.job_lane.specs.Rule.{log}
use Rattle.job_lane.proofs.steps.drain.Given as goal

abbrev pub invariant-loop-taken : goal.invariant-loop-taken
invariant-loop-taken g l =
    IsPassOf l.queue l.pass
    × ((taken : List (List Job)) × (l.runs.items ≡ l.fn.runs.items ++ taken) × (length taken ≡ l._taken)
    × (view l.pass ≡ log true true (view l.fn.pass).pushed ((view l.fn.pass).popped ++ taken)))
    × (vec_len l.runs ≡ vec_len l.fn.runs + l._taken)
    × (vec_len l.fn.runs + l.waiting ≤ vec_capacity l.runs)
    × (length (view l.fn.pass).pushed ≡ length (view l.fn.pass).popped + l.waiting)
