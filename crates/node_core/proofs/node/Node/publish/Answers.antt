use Rattle.std.proofs.Common.{◌≡◌, false, List, [], ◌∷◌, ◌++◌, length, take, drop, replicate, None, refl, sym, ap, ◌∙◌, subst}
use Rattle.hub_core.specs.Chosen.{IsPlanOf, publication_by}
use Rattle.hub_core.specs.Publishing.{Publication, publish_refusal}
use Rattle.hub_core.specs.declared.publishing.PublishPlan.{PublishPlan}
use Rattle.hub_core.proofs.Steps.Rooms.{map_none}
use Rattle.node_law.specs.declared.faults.NodeFault.TheVariants as node_fault
use Rattle.node_law.specs.State.{ShardWithJobs, finished_turns}
use Rattle.node_law.specs.Events.{Own, Publish}
use Rattle.node_core.specs.Served.{Served, IsKept, MayIssue, AreGiven, PublishStep, served_of_parts, refusal}
use Rattle.node_core.proofs.Calls.GivenJobs.{publish_ready, IsPublished, publish_done, given_length}
use Rattle.node_core.proofs.Calls.Composed.{step_keeps}
use Rattle.node_parts.proofs.Handing.{written}
use Rattle.node_core.proofs.node.Node.publish.Goals as goal

-- the hub refuses nothing, and this is its plan
record Planned (s : Served) (p : Publication) (plan : PublishPlan) : Type 0 where
  free : publish_refusal s.server s.node.hub p (finished_turns s.node.lines) ≡ None
  is : IsPlanOf s.server s.node.hub p plan.job plan.frames.items

planned : (s seen : Served) (p : Publication) (plan : PublishPlan)
    → s ≡ seen
    → (refusal seen (Own (Publish p)) ≡ None) × IsPlanOf seen.server seen.node.hub p plan.job plan.frames.items
    → Planned s p plan
planned s seen p plan same h = subst (λ (t : Served). Planned t p plan) (sym same) (record {
  free =
      map_none node_fault.Hub (publish_refusal seen.server seen.node.hub p (finished_turns seen.node.lines)) h.0;
  is = h.1;
})

pub commit_publish-requires : goal.commit_publish-requires
commit_publish-requires g c =
    let old = c.self.inside in
    let before = served_of_parts old.side (g.R.Race.contents old.race) old.lines.items in
    let p = publication_by c.args.conn c.args.publication.now c.args.word in
    let told = planned before c.args.self.now p c.in_ok-job.field-0 c.self.view_is c.in_ok-job.ensures in
    record {
      publication = p;
      finished = finished_turns old.lines.items;
      taken = told.free;
      frames_are = told.is.frames;
    }

pub issue-requires-clause-ready : goal.issue-requires-clause-ready
issue-requires-clause-ready g c =
    let old = c.self.inside in
    let before = served_of_parts old.side (g.R.Race.contents old.race) old.lines.items in
    let p = publication_by c.args.conn c.args.publication.now c.args.word in
    let told = planned before c.args.self.now p c.in_ok-job.field-0 c.self.view_is c.in_ok-job.ensures in
    subst (λ (ls : List ShardWithJobs). MayIssue (g.R.Race.contents old.race) ls)
    (sym c.as_mut_slice-lines.ensures.value) (publish_ready before p c.self.invariant told.free)

pub invariant_of-self-2 : goal.invariant_of-self-2
invariant_of-self-2 g c =
    let old = c.self.inside in
    let race = g.R.Race.contents old.race in
    let new_race = g.R.Race.contents c.issue.new.race in
    let before = served_of_parts old.side race old.lines.items in
    let p = publication_by c.args.conn c.args.publication.now c.args.word in
    let plan = c.in_ok-job.field-0 in
    let told = planned before c.args.self.now p plan c.self.view_is c.in_ok-job.ensures in
    let done : IsPublished old.side c.commit_publish.new.self race new_race old.lines.items c.issue.new.lines p
    plan.job.turn c.len.result = record {
      job = plan.job;
      sent = plan.frames.items;
      jobs = c.fill.new.copies.items ++ plan.job ∷ [];
      plan = told.is;
      turn_is = refl;
      frames_are = c.len.ensures ∙ plan.frames.ok.0;
      side = c.commit_publish.ensures;
      alike = c.in-Ok.ensures ∙ ap (λ n. replicate n plan.job) (c.len-count.ensures ∙ old.lines.ok.0);
      given =
          subst (λ (ls : List ShardWithJobs).
          AreGiven race ls (c.fill.new.copies.items ++ plan.job ∷ []) new_race c.issue.new.lines)
          c.as_mut_slice-lines.ensures.value c.issue.ensures;
    } in
    let does = publish_done old.side c.commit_publish.new.self race new_race old.lines.items c.issue.new.lines p
    plan.job.turn c.len.result told.free done in
    let whole = written old.lines.len c.issue.new.lines old.lines.items
    (given_length race new_race old.lines.items c.issue.new.lines (c.fill.new.copies.items ++ plan.job ∷ []) plan.job
    done.given done.alike)
    old.lines.ok.0 in
    subst (λ (ls : List ShardWithJobs). IsKept (served_of_parts c.commit_publish.new.self new_race ls)) (sym whole)
    (step_keeps before (Own (Publish p)) false (served_of_parts c.commit_publish.new.self new_race c.issue.new.lines)
    c.self.invariant does.step)

pub returns : goal.returns
returns g c =
    let old = c.self.inside in
    let race = g.R.Race.contents old.race in
    let new_race = g.R.Race.contents c.issue.new.race in
    let before = served_of_parts old.side race old.lines.items in
    let p = publication_by c.args.conn c.args.publication.now c.args.word in
    let plan = c.in_ok-job.field-0 in
    let told = planned before c.args.self.now p plan c.self.view_is c.in_ok-job.ensures in
    let done : IsPublished old.side c.commit_publish.new.self race new_race old.lines.items c.issue.new.lines p
    plan.job.turn c.len.result = record {
      job = plan.job;
      sent = plan.frames.items;
      jobs = c.fill.new.copies.items ++ plan.job ∷ [];
      plan = told.is;
      turn_is = refl;
      frames_are = c.len.ensures ∙ plan.frames.ok.0;
      side = c.commit_publish.ensures;
      alike = c.in-Ok.ensures ∙ ap (λ n. replicate n plan.job) (c.len-count.ensures ∙ old.lines.ok.0);
      given =
          subst (λ (ls : List ShardWithJobs).
          AreGiven race ls (c.fill.new.copies.items ++ plan.job ∷ []) new_race c.issue.new.lines)
          c.as_mut_slice-lines.ensures.value c.issue.ensures;
    } in
    let does = publish_done old.side c.commit_publish.new.self race new_race old.lines.items c.issue.new.lines p
    plan.job.turn c.len.result told.free done in
    let whole = written old.lines.len c.issue.new.lines old.lines.items
    (given_length race new_race old.lines.items c.issue.new.lines (c.fill.new.copies.items ++ plan.job ∷ []) plan.job
    done.given done.alike)
    old.lines.ok.0 in
    let after = served_of_parts c.commit_publish.new.self new_race
    (take old.lines.len (c.issue.new.lines ++ drop (length c.issue.new.lines) old.lines.items)) in
    subst (λ (s : Served). (refusal s (Own (Publish p)) ≡ None) × PublishStep s p plan.job.turn c.len.result after)
    c.self.view_is (
      does.step.step.cause,
      subst (λ (ls : List ShardWithJobs).
          PublishStep before p plan.job.turn c.len.result (served_of_parts c.commit_publish.new.self new_race ls))
          (sym whole) does,
    )
