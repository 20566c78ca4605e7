use Rattle.std.proofs.Common.{◌-◌, List, take, subst}
use Rattle.subj.specs.declared.jobs.Job.{Job}
use Rattle.job_block.specs.Blocks.{AreAlike}
use Rattle.job_block.proofs.Runs.{alike_in}
use Rattle.job_block.proofs.slices.JobSlice.run_len.Goals as goal

pub returns-clause-run : goal.returns-clause-run
returns-clause-run c =
    let slice = c.self.inside in
    let last = c.loop-end.end in
    subst (λ (l : List Job). AreAlike (take (last - slice.start) l)) c.self.view_is
    (alike_in slice.block.now.jobs slice.start slice.end last c.loop-end.invariant.2)
