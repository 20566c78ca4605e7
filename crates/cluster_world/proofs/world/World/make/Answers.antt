use Rattle.std.proofs.Common.{◌++◌, [], ◌∷◌, map, take, sym, ap, ◌∙◌, subst, arith}
use Rattle.std.proofs.lemmas.List.{take_all}
use Rattle.list_laws.proofs.Changes.{map_append}
use Rattle.cluster_world.specs.InCode.{event_of, outcome_of}
use Rattle.cluster_world.specs.Value.{Ran}
use Rattle.cluster_world.proofs.Clusters.Finds.{map_take_more, take_map}
use Rattle.cluster_world.proofs.Clusters.Starting.{ran_more}
use Rattle.cluster_world.proofs.world.World.make.Goals as goal

pub loop-event-preserved : goal.loop-event-preserved
loop-event-preserved g c =
    let xs = c.args.events.now in
    let i = c.loop-event.event-index in
    let os = c.loop-event.outcomes.items in
    let e = c.event-item.result in
    let more = ran_more c.args.self.now c.loop-event.self c.step.new.self (map event_of (take i xs)) (map outcome_of os)
    (event_of e) (outcome_of c.in-Ok.outcome) c.loop-event.invariant c.in-Ok.ensures.ok in
    subst (λ es. Ran c.args.self.now es (map outcome_of c.push_reserved.new.self.items) c.step.new.self)
    (sym (map_take_more event_of xs i e c.loop-event-test.true c.event-item.is))
    (subst (λ l. Ran c.args.self.now (map event_of (take i xs) ++ event_of e ∷ []) l c.step.new.self)
    (sym (ap (map outcome_of)
    (c.push_reserved.ensures.items ∙ ap (λ l. l ++ c.in-Ok.outcome ∷ []) c.reserve.ensures.items)
    ∙ map_append outcome_of os (c.in-Ok.outcome ∷ [])))
    more)

pub returns-in-Err-clause-err : goal.returns-in-Err-clause-err
returns-in-Err-clause-err g c =
    let i = c.loop-event.event-index in
    let outcomes = map outcome_of c.loop-event.outcomes.items in
    record {
      made = i;
      outcomes = outcomes;
      run =
          subst (λ es. Ran c.args.self.now es outcomes c.loop-event.self) (sym (take_map event_of i c.args.events.now))
          c.loop-event.invariant;
    }

pub returns-in-Err-step-clause-err : goal.returns-in-Err-step-clause-err
returns-in-Err-step-clause-err g c =
    let i = c.loop-event.event-index in
    let outcomes = map outcome_of c.loop-event.outcomes.items in
    record {
      made = i;
      outcomes = outcomes;
      run =
          subst (λ s. Ran c.args.self.now (take i (map event_of c.args.events.now)) outcomes s)
          (sym c.in-Err-step.ensures.err)
          (subst (λ es. Ran c.args.self.now es outcomes c.loop-event.self) (sym (take_map event_of i c.args.events.now))
          c.loop-event.invariant);
    }

pub returns-clause-ok : goal.returns-clause-ok
returns-clause-ok g c =
    let xs = c.args.events.now in
    let i = c.loop-event.event-index in
    subst (λ es. Ran c.args.self.now (map event_of es) (map outcome_of c.loop-event.outcomes.items) c.loop-event.self)
    (take_all i xs (omega (arith, c.loop-event-test.false, c.loop-event.auto.event-index-end))) c.loop-event.invariant
