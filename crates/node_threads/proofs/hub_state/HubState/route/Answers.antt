use Rattle.std.proofs.Common.{◌≡◌, List, [], ◌∷◌, ◌++◌, None, true≢false, refl, sym, ap, ◌∙◌, subst}
use Rattle.subj.specs.declared.jobs.Job.{Job}
use Rattle.claim_cells.specs.Calls.{ShowsRoom}
use Rattle.claim_cells.specs.Seats.{RaceId}
use Rattle.hub_core.specs.Calls.{job_of}
use Rattle.hub_core.specs.Events as of_hub
use Rattle.hub_core.specs.Receiving.{receive_refusal}
use Rattle.node_threads.specs.AtHub.{AtHub, hub_at, IsAtHub, Issues, Looks}
use Rattle.node_parts.specs.Sides.{HubWithSessions, ByHub, OfHub, IsDone}
use Rattle.node_threads.proofs.Hubs.Publishing.{has_issued, issues}
use Rattle.node_threads.proofs.Hubs.Receiving.{has_job, routed_answer, may_route, issued_more}
use Rattle.node_threads.proofs.hub_state.HubState.route.Goals as goal

pub unreachable-requires : goal.unreachable-requires
unreachable-requires g c =
    has_job c.plan_message.new.self.side.hub c.args.frame.now c.args.frame.now.body c.requires.message
    (sym c.in_default.is ∙ (c.in_ok-planned.ensures).planned.1)

pub take_message-requires-clause-taken : goal.take_message-requires-clause-taken
take_message-requires-clause-taken g c =
    let s = c.self.inside in
    let frame = c.args.frame.now in
    let planned = subst (λ (o : AtHub).
    (receive_refusal o.side.server o.side.hub o.finished frame ≡ None)
    × (c.in_ok-planned.planned ≡ job_of o.side.hub frame frame.body))
    (sym c.self.view_is) (c.in_ok-planned.ensures).planned in
    record { finished = s.finished; taken = planned.0 }

pub unreachable-requires-in_default-issue : goal.unreachable-requires-in_default-issue
unreachable-requires-in_default-issue g c =
    let s = c.self.inside in
    let w = hub_at s.side s.seat.part s.finished s.outlet in
    let frame = c.args.frame.now in
    let planned = subst (λ (o : AtHub).
    (receive_refusal o.side.server o.side.hub o.finished frame ≡ None)
    × (c.in_ok-planned.planned ≡ job_of o.side.hub frame frame.body))
    (sym c.self.view_is) (c.in_ok-planned.ensures).planned in
    let may =
    may_route g.N.NodeName.race.shards w frame c.is_listed.ensures c.self.invariant.0 planned.0 c.requires.message in
    true≢false (sym ((c.in_default-issue.ensures).sure
    (subst (λ (r : RaceId). ShowsRoom r.shards s.seat.part) (sym c.requires.race) may.room)))

pub invariant_of-self-2 : goal.invariant_of-self-2
invariant_of-self-2 g c =
    let s = c.self.inside in
    let w = hub_at s.side s.seat.part s.finished s.outlet in
    let frame = c.args.frame.now in
    let job = c.in-Some.job in
    let planned = subst (λ (o : AtHub).
    (receive_refusal o.side.server o.side.hub o.finished frame ≡ None)
    × (c.in_ok-planned.planned ≡ job_of o.side.hub frame frame.body))
    (sym c.self.view_is) (c.in_ok-planned.ensures).planned in
    let a = routed_answer s.side.hub frame frame.body job (sym c.in-Some.is ∙ planned.1) in
    let side = c.take_message.new.self in
    let done : IsDone s.side (ByHub (of_hub.Receive frame s.finished)) (OfHub (of_hub.Routed job)) side = record {
      free = planned.0;
      asked = tt;
      answered = ap OfHub a.answers;
      after = c.take_message.ensures;
    } in
    let h = has_issued c.args.cells.now.shards s.seat.part c.issue.new.seat.part c.in-Ok-issue.field-0
    (c.in-Ok-issue.ensures).told in
    let jobs_are : c.add.new.self ≡ s.outlet ++ job ∷ [] =
    c.in-Ok.ensures.ok in
    let new = issues g.N.NodeName.race.shards w side c.issue.new.seat.part (ByHub (of_hub.Receive frame s.finished))
    (OfHub (of_hub.Routed job)) job c.self.invariant.0 done h
    (ap (λ (t : HubWithSessions). t.hub.issued) c.take_message.ensures
    ∙ issued_more s.side.server s.side.hub frame c.requires.message)
    refl a.turn c.as_slice-in_order.ensures.valid in (
      subst (λ js. IsAtHub g.N.NodeName.race.shards (hub_at side c.issue.new.seat.part s.finished js))
          (sym {A = List Job} jobs_are) new.0,
      c.issue.ensures.race ∙ c.self.invariant.1,
    )

pub returns : goal.returns
returns g c =
    let s = c.self.inside in
    let w = hub_at s.side s.seat.part s.finished s.outlet in
    let frame = c.args.frame.now in
    let job = c.in-Some.job in
    let planned = subst (λ (o : AtHub).
    (receive_refusal o.side.server o.side.hub o.finished frame ≡ None)
    × (c.in_ok-planned.planned ≡ job_of o.side.hub frame frame.body))
    (sym c.self.view_is) (c.in_ok-planned.ensures).planned in
    let a = routed_answer s.side.hub frame frame.body job (sym c.in-Some.is ∙ planned.1) in
    let side = c.take_message.new.self in
    let done : IsDone s.side (ByHub (of_hub.Receive frame s.finished)) (OfHub (of_hub.Routed job)) side = record {
      free = planned.0;
      asked = tt;
      answered = ap OfHub a.answers;
      after = c.take_message.ensures;
    } in
    let h = has_issued c.args.cells.now.shards s.seat.part c.issue.new.seat.part c.in-Ok-issue.field-0
    (c.in-Ok-issue.ensures).told in
    let jobs_are : c.add.new.self ≡ s.outlet ++ job ∷ [] =
    c.in-Ok.ensures.ok in
    let new = issues g.N.NodeName.race.shards w side c.issue.new.seat.part (ByHub (of_hub.Receive frame s.finished))
    (OfHub (of_hub.Routed job)) job c.self.invariant.0 done h
    (ap (λ (t : HubWithSessions). t.hub.issued) c.take_message.ensures
    ∙ issued_more s.side.server s.side.hub frame c.requires.message)
    refl a.turn c.as_slice-in_order.ensures.valid in
    record {
      seen = w;
      looks =
          subst (λ (o : AtHub). Looks g.N.NodeName.race.shards c.args.self.now o) (sym c.self.view_is)
          (c.in_ok-planned.ensures).looks;
      answered = (
        planned.0,
        record {
          job = job;
          issues =
              subst (λ js.
              Issues w (ByHub (of_hub.Receive frame s.finished)) (OfHub (of_hub.Routed job)) job
              (hub_at side c.issue.new.seat.part s.finished js))
              (sym {A = List Job} jobs_are) new.1;
          turn_is = refl;
        },
      );
    }
