use Rattle.std.proofs.Common.{◌≡◌, List, [], ◌∷◌, ◌++◌, true, true≢false, None, refl, sym, ap, ◌∙◌, subst}
use Rattle.subj.specs.QueueNames.{are_queue_names}
use Rattle.subj.specs.declared.jobs.Job.{Job}
use Rattle.claim_cells.specs.Calls.{ShowsRoom}
use Rattle.claim_cells.specs.Seats.{RaceId}
use Rattle.hub_core.specs.Chosen.{IsPlanOf, publication_by}
use Rattle.hub_core.specs.Events as of_hub
use Rattle.hub_core.specs.Publishing.{publish_refusal, own_job, frames_of}
use Rattle.node_threads.specs.AtHub.{AtHub, hub_at, IsAtHub}
use Rattle.node_parts.specs.Sides.{HubWithSessions, ByHub, OfHub}
use Rattle.node_threads.proofs.Hubs.Publishing.{may_publish, published_done, has_issued, issues}
use Rattle.node_threads.proofs.hub_state.HubState.publish.Goals as goal

pub commit_publish-requires : goal.commit_publish-requires
commit_publish-requires g c =
    let s = c.self.inside in
    let p = publication_by c.args.conn c.args.publication.now c.args.word in
    let plan = c.in_ok-job.field-0 in
    let planned = subst (λ (o : AtHub).
    (publish_refusal o.side.server o.side.hub p o.finished ≡ None)
    × IsPlanOf o.side.server o.side.hub p plan.job plan.frames.items)
    (sym c.self.view_is) (c.in_ok-job.ensures).planned in
    record { publication = p; finished = s.finished; taken = planned.0; frames_are = planned.1.frames }

pub unreachable-requires : goal.unreachable-requires
unreachable-requires g c =
    let s = c.self.inside in
    let p = publication_by c.args.conn c.args.publication.now c.args.word in
    let plan = c.in_ok-job.field-0 in
    let planned = subst (λ (o : AtHub).
    (publish_refusal o.side.server o.side.hub p o.finished ≡ None)
    × IsPlanOf o.side.server o.side.hub p plan.job plan.frames.items)
    (sym c.self.view_is) (c.in_ok-job.ensures).planned in
    let may = may_publish g.N.NodeName.race.shards (hub_at s.side s.seat.part s.finished s.outlet) p
    c.self.invariant.0 planned.0 in
    true≢false (sym ((c.in_default-issue.ensures).sure
    (subst (λ (r : RaceId). ShowsRoom r.shards s.seat.part) (sym c.requires) may.room)))

pub invariant_of-self-2 : goal.invariant_of-self-2
invariant_of-self-2 g c =
    let s = c.self.inside in
    let p = publication_by c.args.conn c.args.publication.now c.args.word in
    let plan = c.in_ok-job.field-0 in
    let w = hub_at s.side s.seat.part s.finished s.outlet in
    let job = own_job s.side.server s.side.hub p in
    let planned = subst (λ (o : AtHub).
    (publish_refusal o.side.server o.side.hub p o.finished ≡ None)
    × IsPlanOf o.side.server o.side.hub p plan.job plan.frames.items)
    (sym c.self.view_is) (c.in_ok-job.ensures).planned in
    let side = c.commit_publish.new.self in
    let done = published_done w p plan.job plan.frames.items side planned.0 planned.1 c.commit_publish.ensures in
    let h = has_issued c.args.cells.now.shards s.seat.part c.issue.new.seat.part c.in-Ok-issue.field-0
    (c.in-Ok-issue.ensures).told in
    let jobs_are : c.add.new.self ≡ s.outlet ++ job ∷ [] =
    c.in-Ok.ensures.ok ∙ (λ k. s.outlet ++ planned.1.job k ∷ []) in
    let new = issues g.N.NodeName.race.shards w side c.issue.new.seat.part (ByHub (of_hub.Publish p s.finished))
    (OfHub (of_hub.Issued job (frames_of s.side.server s.side.hub p))) job c.self.invariant.0 done h
    (ap (λ (t : HubWithSessions). t.hub.issued) c.commit_publish.ensures) refl refl
    (subst (λ (j : Job). are_queue_names j.queues ≡ true) planned.1.job c.as_slice-in_order.ensures.valid) in (
      subst (λ js. IsAtHub g.N.NodeName.race.shards (hub_at side c.issue.new.seat.part s.finished js))
          (sym {A = List Job} jobs_are) new.0,
      c.issue.ensures.race ∙ c.self.invariant.1,
    )
