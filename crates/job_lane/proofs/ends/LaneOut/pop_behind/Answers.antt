use Rattle.std.proofs.Common.{sym, subst}
use Rattle.crossbeam_queue.specs.Passes.{view}
use Rattle.job_lane.specs.Ends.{ArePopped}
use Rattle.job_lane.specs.Runs.{IsGiving, jobs_of}
use Rattle.job_lane.proofs.Giving.{left_giving, left_popped, reader_of}
use Rattle.job_lane.proofs.ends.LaneOut.pop_behind.Goals as goal

pub invariant_of-self : goal.invariant_of-self
invariant_of-self c =
    let s = c.self.inside in
    let i = c.self.invariant in
    let came = jobs_of (view s.pass).popped in
    (i.0, i.1, subst (IsGiving came) (sym c.leave.ensures) (left_giving came s.run c.args.count i.2))

pub returns : goal.returns
returns c =
    let s = c.self.inside in
    let came = jobs_of (view s.pass).popped in
    let reader = reader_of s.pass.table_id came in
    subst (λ old. ArePopped c.args.count old (reader c.leave.new.run)) c.self.view_is
    (subst (λ run. ArePopped c.args.count (reader s.run) (reader run)) (sym c.leave.ensures)
    (left_popped s.pass.table_id came s.run c.args.count c.self.invariant.2))
