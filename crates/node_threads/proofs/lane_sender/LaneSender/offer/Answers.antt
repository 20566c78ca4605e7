use Rattle.std.proofs.Common.{◌++◌, Some, length, sym, subst}
use Rattle.job_lane.specs.Turns.{AreNumbered, AreNumberedBehind}
use Rattle.node_threads.specs.Outlets.{LaneSender, jobs_owed}
use Rattle.node_threads.proofs.Lanes.Outlets.{owed_behind}
use Rattle.node_threads.proofs.lane_sender.LaneSender.offer.Goals as goal

pub push-requires : goal.push-requires
push-requires g c =
    let s = c.self.inside in
    let all = subst (λ (l : LaneSender). AreNumbered (l.pushed ++ jobs_owed l.taken (Some c.args.run.now)))
    (sym c.self.view_is) c.requires in
    subst (λ r. AreNumberedBehind (length s.lane.pushed) r) (sym c.in-Ok.ensures)
    (owed_behind s.lane.pushed s.taken c.args.run.now c.if-self.false all)
