use Rattle.std.proofs.Common.{ℕ, List, Option, Some, None, sym, ap, ◌∙◌, subst}
use Rattle.std.specs.Prelude.{if◌then◌else◌, ⊤}
use Rattle.subj.specs.Answers.{IsAnswered}
use Rattle.hub_core.specs.declared.faults.HubFault.{HubFault}
use Rattle.hub_core.specs.declared.faults.HubFault.TheVariants.{TooManyQueues}
use Rattle.hub_core.specs.declared.publishing.PublishPlan.{PublishPlan}
use Rattle.hub_core.specs.Chosen.{publication_by, IsPlanOf}
use Rattle.hub_core.specs.Serving.{ServesAlone}
use Rattle.hub_core.proofs.Choices.Alone.{few_alone}
use Rattle.hub_core.proofs.hub.Hub.plan_at.Goals as goal

pub returns-in-Some-names_alone : goal.returns-in-Some-names_alone
returns-in-Some-names_alone c =
    let hub = c.args.self.now in
    let publication = c.args.publication.now in
    let p = publication_by c.args.conn publication c.args.word in
    let names = c.in-Some-names_alone.names.now in
    let serves = subst (λ (subject : List ℕ). ServesAlone hub.server hub.state subject names)
    (c.lent.ensures ∙ c.subject-subject.ensures) c.in-Some-names_alone.ensures.alone in
    let few = few_alone hub.server hub.state publication.message.subject names serves in
    subst (λ (cause : Option HubFault).
    IsAnswered {T = PublishPlan} cause (λ plan. IsPlanOf hub.server hub.state p plan.job plan.frames.items) ⊤
    c.plan_alone.result)
    (sym (ap (λ b. let o : Option HubFault = if b then Some TooManyQueues else None in o) few))
    (c.plan_alone.ensures c.args.word)
