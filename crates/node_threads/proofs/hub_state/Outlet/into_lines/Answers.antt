use Rattle.std.proofs.Common.{All, List, subst}
use Rattle.subj.specs.declared.jobs.Job.{Job}
use Rattle.node_threads.specs.Outlets.{AreFirst}
use Rattle.node_threads.proofs.Lanes.Outlets.{pushed_first}
use Rattle.node_threads.proofs.hub_state.Outlet.into_lines.Goals as goal

pub returns : goal.returns
returns g c =
    let s = c.self.inside in
    subst (λ (o : List Job). All (λ line. AreFirst line.pushed o) s.lines.items) c.self.view_is
    (pushed_first s.run s.unsent.jobs s.lines.items c.self.invariant)
