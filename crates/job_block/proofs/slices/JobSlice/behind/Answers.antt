use Rattle.std.proofs.Common.{List, drop, ap, ◌∙◌}
use Rattle.subj.specs.declared.jobs.Job.{Job}
use Rattle.job_block.proofs.Ranges.{behind_in}
use Rattle.job_block.proofs.slices.JobSlice.behind.Goals as goal

pub returns : goal.returns
returns c =
    let slice = c.self.inside in
    behind_in slice.block.now.jobs slice.start slice.end c.args.count
    ∙ ap (λ (l : List Job). drop c.args.count l) c.self.view_is
