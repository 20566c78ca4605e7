use Rattle.std.proofs.Common.{◌≡◌, ◌+◌, [], ◌∷◌, ◌++◌, Some, None, sym, ap, ◌∙◌, subst, arith}
use Rattle.subj.specs.Numbers.{next_turn}
use Rattle.subj.specs.declared.messages.Pub.{Pub}
use Rattle.claim_cells.specs.Calls.{ShowsRoom}
use Rattle.claim_cells.specs.Seats.{RaceId}
use Rattle.job_block.specs.declared.kept.Origin.{Origin}
use Rattle.job_block.specs.Blocks.{IsLast, job_of}
use Rattle.publication_runs.specs.Lent.{LentState, IsAheadAs}
use Rattle.hub_core.specs.State.{State}
use Rattle.hub_core.specs.Chosen.{turn_refusal}
use Rattle.hub_core.specs.Local.{OwesLocalJob, behind_local}
use Rattle.hub_core.specs.Publishing.{next_id}
use Rattle.node_threads.specs.AtHub.{AtHub, hub_at}
use Rattle.node_threads.specs.HubRuns.{IssuesRun}
use Rattle.node_threads.proofs.Hubs.Running.{one_issued, is_planned, may_issue, has_turn, next_is}
use Rattle.node_threads.proofs.hub_state.HubState.issue_next.Goals as goal

pub unreachable-requires : goal.unreachable-requires
unreachable-requires g c =
    let s = c.self.inside in
    let w = hub_at s.side s.seat.part s.finished s.outlet in
    let free = subst (λ (o : AtHub). turn_refusal o.side.server o.side.hub o.finished ≡ None) (sym c.self.view_is)
    c.requires.free in
    let may = may_issue g.N.NodeName.race.shards w c.self.invariant.0 free in
    let turns = c.self.invariant.0.turns in
    let limit = may.limit in
    has_turn s.side.hub.issued (omega arith)
    (c.in_default-next.ensures ∙ ap next_turn (c.issued.ensures ∙ ap (λ (h : State). h.issued) c.hub.ensures.state))

pub add_lent-requires-clause-turn : goal.add_lent-requires-clause-turn
add_lent-requires-clause-turn g c =
    let s = c.self.inside in
    let turn : c.in-Some-next.turn ≡ s.side.hub.issued + 1 = next_is s.side.hub.issued c.in-Some-next.turn
    (c.in-Some-next.ensures ∙ ap next_turn (c.issued.ensures ∙ ap (λ (h : State). h.issued) c.hub.ensures.state)) in
    turn ∙ ap (λ n. n + 1) (sym c.self.invariant.0.count)

pub add_lent-requires-clause-last : goal.add_lent-requires-clause-last
add_lent-requires-clause-last g c goes_on =
    let s = c.self.inside in
    let run = c.args.run.now in
    let conn = c.args.conn in
    let ahead = c.in-Some.ensures.found in
    let on = ap (λ (p : Pub). p.message.subject) ahead.is_as ∙ ahead.is_on in
    let echo_is = c.echo.ensures ∙ ap (λ (r : LentState). r.echo) c.peek.ensures.same in
    let queues = c.args.queues.now in
    subst (λ names. IsLast (Some conn) c.in-Some.ahead.publication.message.subject c.echo.result names s.outlet)
    (sym c.in-Ok.ensures)
    (subst (λ echo. IsLast (Some conn) c.in-Some.ahead.publication.message.subject echo queues s.outlet) (sym echo_is)
    (subst (λ subject. IsLast (Some conn) subject run.echo queues s.outlet) (sym on)
    (subst (λ (o : AtHub). IsLast (Some conn) run.subject run.echo queues o.issued) (sym c.self.view_is)
    (c.requires.last goes_on))))

pub pass-requires : goal.pass-requires
pass-requires g c =
    let ahead = c.in-Some.ahead in
    subst (λ (r : LentState). IsAheadAs ahead.behind.now ahead.publication r) (sym c.peek.ensures.same)
    c.in-Some.ensures.found

pub commit_local-requires : goal.commit_local-requires
commit_local-requires g c =
    let s = c.self.inside in
    let w = hub_at s.side s.seat.part s.finished s.outlet in
    let said = c.in-Some.ahead.publication in
    let queues = c.args.queues.now in
    let ahead = c.in-Some.ensures.found in
    let on = ap (λ (p : Pub). p.message.subject) ahead.is_as ∙ ahead.is_on in
    let owes = subst (λ (o : AtHub). OwesLocalJob o.side.server o.side.hub c.args.run.now.subject queues)
    (sym c.self.view_is) c.requires.local in
    let free = subst (λ (o : AtHub). turn_refusal o.side.server o.side.hub o.finished ≡ None) (sym c.self.view_is)
    c.requires.free in
    is_planned g.N.NodeName.race.shards c.args.conn w said queues
    (subst (λ subject. OwesLocalJob s.side.server s.side.hub subject queues) (sym on) owes) free

pub issue_shown-requires : goal.issue_shown-requires
issue_shown-requires g c =
    let s = c.self.inside in
    let w = hub_at s.side s.seat.part s.finished s.outlet in
    let free = subst (λ (o : AtHub). turn_refusal o.side.server o.side.hub o.finished ≡ None) (sym c.self.view_is)
    c.requires.free in
    let may = may_issue g.N.NodeName.race.shards w c.self.invariant.0 free in
    record {
      race = c.self.invariant.1 ∙ sym c.requires.race;
      limit = may.limit;
      room = subst (λ (r : RaceId). ShowsRoom r.shards s.seat.part) (sym c.requires.race) may.room;
    }

pub invariant_of-self-2 : goal.invariant_of-self-2
invariant_of-self-2 g c =
    let s = c.self.inside in
    let w = hub_at s.side s.seat.part s.finished s.outlet in
    let run = c.args.run.now in
    let conn = c.args.conn in
    let said = c.in-Some.ahead.publication in
    let queues = c.args.queues.now in
    let owes = subst (λ (o : AtHub). OwesLocalJob o.side.server o.side.hub run.subject queues) (sym c.self.view_is)
    c.requires.local in
    let free = subst (λ (o : AtHub). turn_refusal o.side.server o.side.hub o.finished ≡ None) (sym c.self.view_is)
    c.requires.free in
    let origin : Origin = record { id = c.next_id.result; publisher = Some conn; echo = c.echo.result } in
    let id_is = c.next_id.ensures ∙ (λ k. next_id (c.hub-2.ensures.server k) (c.hub-2.ensures.state k)) in
    let echo_is = c.echo.ensures ∙ ap (λ (r : LentState). r.echo) c.peek.ensures.same in
    let origin_is : origin ≡ record { id = next_id s.side.server s.side.hub; publisher = Some conn; echo = run.echo } =
    (λ k. record { id = id_is k; publisher = Some conn; echo = echo_is k }) in
    let jobs_are = c.in-Ok-add_lent.ensures.ok
    ∙ (λ k. s.outlet ++ job_of origin c.in-Some-next.turn said.message (c.in-Ok.ensures k) ∷ []) in
    let one = one_issued g.N.NodeName.race.shards conn w said queues run c.peek.new.self c.pass.new.self origin
    c.in-Some-next.turn c.commit_local.new.self c.issue_shown.new.seat.part c.add_lent.new.self c.self.invariant.0 owes
    free c.peek.ensures.same c.pass.ensures
    (c.in-Some-next.ensures ∙ ap next_turn (c.issued.ensures ∙ ap (λ (h : State). h.issued) c.hub.ensures.state))
    origin_is jobs_are c.commit_local.ensures c.issue_shown.ensures.part in
    (one.keeps, c.issue_shown.ensures.race ∙ c.self.invariant.1)

pub returns : goal.returns
returns g c =
    let s = c.self.inside in
    let w = hub_at s.side s.seat.part s.finished s.outlet in
    let run = c.args.run.now in
    let conn = c.args.conn in
    let said = c.in-Some.ahead.publication in
    let queues = c.args.queues.now in
    let owes = subst (λ (o : AtHub). OwesLocalJob o.side.server o.side.hub run.subject queues) (sym c.self.view_is)
    c.requires.local in
    let free = subst (λ (o : AtHub). turn_refusal o.side.server o.side.hub o.finished ≡ None) (sym c.self.view_is)
    c.requires.free in
    let origin : Origin = record { id = c.next_id.result; publisher = Some conn; echo = c.echo.result } in
    let id_is = c.next_id.ensures ∙ (λ k. next_id (c.hub-2.ensures.server k) (c.hub-2.ensures.state k)) in
    let echo_is = c.echo.ensures ∙ ap (λ (r : LentState). r.echo) c.peek.ensures.same in
    let origin_is : origin ≡ record { id = next_id s.side.server s.side.hub; publisher = Some conn; echo = run.echo } =
    (λ k. record { id = id_is k; publisher = Some conn; echo = echo_is k }) in
    let jobs_are = c.in-Ok-add_lent.ensures.ok
    ∙ (λ k. s.outlet ++ job_of origin c.in-Some-next.turn said.message (c.in-Ok.ensures k) ∷ []) in
    let one = one_issued g.N.NodeName.race.shards conn w said queues run c.peek.new.self c.pass.new.self origin
    c.in-Some-next.turn c.commit_local.new.self c.issue_shown.new.seat.part c.add_lent.new.self c.self.invariant.0 owes
    free c.peek.ensures.same c.pass.ensures
    (c.in-Some-next.ensures ∙ ap next_turn (c.issued.ensures ∙ ap (λ (h : State). h.issued) c.hub.ensures.state))
    origin_is jobs_are c.commit_local.ensures c.issue_shown.ensures.part in
    record {
      issues =
          subst (λ (o : AtHub).
          IssuesRun g.N.NodeName.race.shards conn 1 run c.pass.new.self o
          (hub_at c.commit_local.new.self c.issue_shown.new.seat.part s.finished c.add_lent.new.self))
          c.self.view_is one.issues;
      last = λ so. one.last;
      same = (
        ap (λ (o : AtHub). o.finished) c.self.view_is,
        one.server ∙ ap (λ (o : AtHub). o.side.server) c.self.view_is,
        one.hub ∙ ap (λ (o : AtHub). behind_local 1 o.side.hub) c.self.view_is,
      );
    }
