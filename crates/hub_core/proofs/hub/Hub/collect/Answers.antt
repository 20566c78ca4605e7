use Rattle.std.proofs.Common.{◌≡◌, ℕ, List, [], length, None, sym, ◌∙◌, subst}
use Rattle.list_laws.proofs.Tests.{eq_true}
use Rattle.interest.specs.declared.changes.Change.{Change}
use Rattle.subj.specs.declared.keys.Delta.{Delta}
use Rattle.hub_core.specs.Hubs.{Hub, hub_of_parts, DoesStep}
use Rattle.hub_core.specs.Events.{Collect, Collected}
use Rattle.hub_core.specs.Telling.{collect_refusal, collect_frames}
use Rattle.hub_core.proofs.Steps.Collected.{nothing_refused, nothing_told}
use Rattle.hub_core.proofs.Neighbours.Puts.{no_items}
use Rattle.hub_core.proofs.hub.Hub.collect.Goals as goal

pub returns-then-is_empty : goal.returns-then-is_empty
returns-then-is_empty c = λ shard.
    let i = c.self.inside in
    let old = hub_of_parts i.server i.issued i.published i.changed i.draining i.counts i.peers.items in
    let deltas = c.args.deltas.now in
    let none : deltas ≡ [] =
    no_items deltas (eq_true (length deltas) 0 (sym c.is_empty.ensures ∙ c.if-is_empty.true)) in
    let Tells : Hub → List Delta → List Change → List ℕ → Type 0 = λ hub deltas changes cut.
    (collect_refusal hub.state deltas ≡ None)
    × DoesStep hub (Collect shard deltas) (Collected changes (collect_frames hub.server hub.state deltas) cut) hub in
    let told : Tells old [] [] [] = (
      nothing_refused old c.self.invariant.0,
      nothing_told old c.self.invariant.0 shard,
    ) in
    let here : Tells c.args.self.now [] [] [] = subst (λ (hub : Hub). Tells hub [] [] []) c.self.view_is told in
    let counted : Tells c.args.self.now deltas [] [] =
    subst (λ (ds : List Delta). Tells c.args.self.now ds [] []) (sym none) here in
    let changed : Tells c.args.self.now deltas c.nothing.result.changes.items [] =
    subst (λ (cs : List Change). Tells c.args.self.now deltas cs []) (sym c.nothing.ensures.changes) counted in
    subst (λ (cut : List ℕ). Tells c.args.self.now deltas c.nothing.result.changes.items cut)
    (sym c.nothing.ensures.cut) changed

pub returns : goal.returns
returns c = λ shard. (c.in_ok-plan.ensures.0, c.commit_collect.ensures shard)
