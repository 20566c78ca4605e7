use Rattle.std.proofs.Common.{ap, ◌∙◌, sym, subst}
use Rattle.publication_runs.specs.Lent.{LentState}
use Rattle.hub_core.specs.Local.{OwesLocalJob}
use Rattle.node_threads.specs.AtHub.{AtHub}
use Rattle.node_threads.specs.HubRuns.{IssuesRun}
use Rattle.node_threads.proofs.hub_state.HubState.publish_run.Goals as goal

pub issue_each-requires-clause-local : goal.issue_each-requires-clause-local
issue_each-requires-clause-local g c =
    let s = c.self.inside in
    let on = c.subject.ensures ∙ ap (λ (r : LentState). r.subject) c.peek.ensures.same in
    let queues = c.in-Some-local_names.queues in
    let here = subst (λ server. OwesLocalJob server c.hub.result.now.state c.subject.result queues)
    c.hub.ensures.server c.in-Some-local_names.ensures in
    let there = subst (λ hub. OwesLocalJob s.side.server hub c.subject.result queues) c.hub.ensures.state here in
    let owes = subst (λ subject. OwesLocalJob s.side.server s.side.hub subject queues) on there in
    subst (λ (r : LentState). OwesLocalJob c.args.self.now.side.server c.args.self.now.side.hub r.subject queues)
    (sym c.peek.ensures.same)
    (subst (λ (o : AtHub). OwesLocalJob o.side.server o.side.hub c.args.run.now.subject queues) c.self.view_is owes)

pub returns-in-Some-local_names : goal.returns-in-Some-local_names
returns-in-Some-local_names g c =
    subst (λ (r : LentState).
    IssuesRun g.N.NodeName.race.shards c.args.conn c.issue_each.result r c.issue_each.new.run c.args.self.now
    c.issue_each.new.self)
    c.peek.ensures.same c.issue_each.ensures
