use Rattle.std.proofs.Common.{◌≡◌, ◌+◌, ◌++◌, length, map, take, drop, replicate}
use Rattle.subj.specs.declared.jobs.Job.{Job}
use Rattle.node_law.specs.Steps.{line_with_job}
use Rattle.node_parts.proofs.jobs.hand_out.Given as goal

abbrev pub invariant-loop-line : goal.invariant-loop-line
invariant-loop-line g l = record {
  size : length l.line-items ≡ length l.fn.lines;
  enough : length l.jobs.items + l.line-index ≡ length l.fn.lines;
  rest : drop l.line-index l.line-items ≡ drop l.line-index l.fn.lines;
  alike : (job : Job) → l.fn.jobs.items ≡ replicate (length l.fn.lines) job
      → l.jobs.items ≡ replicate (length l.jobs.items) job;
  given : (job : Job) → l.fn.jobs.items ≡ replicate (length l.fn.lines) job
      → l.line-items ≡ map (line_with_job job) (take l.line-index l.fn.lines) ++ drop l.line-index l.fn.lines;
}
