use Rattle.std.proofs.Common.{◌++◌, ap, ◌∙◌}
use Rattle.job_lane.specs.Runs.{jobs_of, not_given}
use Rattle.job_lane.proofs.Lists.{jobs_append}
use Rattle.job_lane.proofs.ends.meet.Goals as goal

pub returns-clause-behind : goal.returns-clause-behind
returns-clause-behind g c =
    let spare = c.put_behind_first.new.runs in
    let empty = ap jobs_of c.writer.invariant.4.empty in
    let left = c.put_behind_first.ensures.jobs ∙ ap (λ l. l ++ not_given c.reader.inside.run) empty
    ∙ ap (λ end. end.behind) c.reader.view_is in
    let waiting = c.drain.ensures.0 in (
      jobs_of waiting,
      ap jobs_of c.drain.ensures.1 ∙ jobs_append spare.items waiting ∙ ap (λ l. l ++ jobs_of waiting) left,
    )
