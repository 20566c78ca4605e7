use Rattle.std.specs.Arc.{arc_value}
use Rattle.std.proofs.Common.{rules, ◌+◌, List, drop, subst}
use Rattle.subj.specs.declared.jobs.Job.{Job}
use Rattle.job_lane.specs.Runs.{GoesOn}
use Rattle.job_lane.proofs.Lists.{goes_on}
use Rattle.job_lane.proofs.runs.Run.go_on.Goals as goal

pub returns-clause-more : goal.returns-clause-more
returns-clause-more c _ = let l = (arc_value c.self.inside.block).jobs in let n = c.self.inside.before in
    subst (λ (old : List Job). GoesOn old (drop (n + 1) l)) c.self.view_is (goes_on l n (search rules))
