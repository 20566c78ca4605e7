use Rattle.std.proofs.Common.{ap, ◌∙◌, subst}
use Rattle.std.specs.Prelude.{if◌then◌else◌}
use Rattle.hub_core.specs.Local.{behind_local}
use Rattle.node_threads.specs.HubRuns.{IssuesRun}
use Rattle.node_threads.proofs.Hubs.Running.{still_local, runs_first, runs_on}
use Rattle.node_threads.proofs.hub_state.HubState.issue_each.Goals as goal

pub loop-count-init : goal.loop-count-init
loop-count-init g c =
    let shards = g.N.NodeName.race.shards in
    let conn = c.args.conn in
    let run = c.args.run.now in
    let old = c.args.self.now in
    let on = c.if-not-issue_next.false in
    let to = c.issue_next.new.run in
    let new = c.issue_next.new.self in
    let did = c.issue_next.ensures in
    runs_first shards conn c.args.queues.now run to old new
    (subst (λ b. IssuesRun shards conn (if b then 1 else 0) run to old new) on did.issues) (did.last on) did.same.0
    did.same.1 (did.same.2 ∙ ap (λ b. if b then behind_local 1 old.side.hub else old.side.hub) on)

pub issue_next-requires-in-loop-count-clause-local : goal.issue_next-requires-in-loop-count-clause-local
issue_next-requires-in-loop-count-clause-local g c =
    let l = c.loop-count in
    still_local g.N.NodeName.race.shards c.args.conn l.count c.args.queues.now c.args.run.now l.run c.args.self.now
    l.self l.invariant c.requires.local

pub loop-count-preserved : goal.loop-count-preserved
loop-count-preserved g c =
    let l = c.loop-count in
    let shards = g.N.NodeName.race.shards in
    let conn = c.args.conn in
    let on = c.if-not-issue_next-2.false in
    let to = c.issue_next-in-loop-count.new.run in
    let new = c.issue_next-in-loop-count.new.self in
    let did = c.issue_next-in-loop-count.ensures in
    runs_on shards conn l.count c.args.queues.now c.args.run.now l.run to c.args.self.now l.self new l.invariant
    (subst (λ b. IssuesRun shards conn (if b then 1 else 0) l.run to l.self new) on did.issues) (did.last on) did.same.0
    did.same.1
    (did.same.2 ∙ ap (λ b. if b then behind_local 1 l.self.side.hub else l.self.side.hub) on)
