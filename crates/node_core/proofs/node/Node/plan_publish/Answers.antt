use Rattle.std.proofs.Common.{◌≡◌, ap, ◌∙◌, subst}
use Rattle.std.specs.Prelude.{⊤}
use Rattle.std.specs.Option.{option_map}
use Rattle.subj.specs.Answers.{IsAnswered}
use Rattle.hub_core.specs.Chosen.{publication_by, IsPlanOf}
use Rattle.hub_core.specs.Publishing.{publish_refusal}
use Rattle.hub_core.specs.declared.publishing.PublishPlan.{PublishPlan}
use Rattle.node_law.specs.declared.faults.NodeFault.TheVariants as node_fault
use Rattle.node_law.specs.Events.{Own, Publish}
use Rattle.node_core.specs.Served.{Served, served_of_parts, refusal}
use Rattle.node_core.proofs.Calls.GivenJobs.{are_counted, publish_heard, hub_answers}
use Rattle.node_core.proofs.node.Node.plan_publish.Goals as goal

pub finished_by-finished-requires-clause-all : goal.finished_by-finished-requires-clause-all
finished_by-finished-requires-clause-all g c =
    let old = c.self.inside in
    (are_counted (served_of_parts old.side (g.R.Race.contents old.race) old.lines.items) c.len-count.result
    c.self.invariant (c.len-count.ensures ∙ old.lines.ok.0)).all

pub finished_by-finished-requires-clause-few : goal.finished_by-finished-requires-clause-few
finished_by-finished-requires-clause-few g c =
    let old = c.self.inside in
    (are_counted (served_of_parts old.side (g.R.Race.contents old.race) old.lines.items) c.len-count.result
    c.self.invariant (c.len-count.ensures ∙ old.lines.ok.0)).few

pub returns : goal.returns
returns g c =
    let old = c.self.inside in
    let before = served_of_parts old.side (g.R.Race.contents old.race) old.lines.items in
    let p = publication_by c.args.conn c.args.publication.now c.args.word in
    let planned = λ (s : Served) (plan : PublishPlan). IsPlanOf s.server s.node.hub p plan.job plan.frames.items in
    let cause = publish_refusal old.side.server old.side.hub p c.finished_by-finished.result in
    let causes : option_map node_fault.Hub cause ≡ refusal before (Own (Publish p)) =
    ap (option_map node_fault.Hub)
    (publish_heard before p c.len-count.result c.finished_by-finished.result c.self.invariant
    (c.len-count.ensures ∙ old.lines.ok.0) c.finished_by-finished.ensures) in
    subst (λ (s : Served). IsAnswered (refusal s (Own (Publish p))) (planned s) ⊤ c.of_hub.result) c.self.view_is
    (subst (λ o. IsAnswered o (planned before) ⊤ c.of_hub.result) causes
    (hub_answers cause (planned before) ⊤ c.plan_publish.result c.of_hub.result c.of_hub.ensures
    c.plan_publish.ensures))
