use Rattle.std.proofs.Common.{◌≡◌, false, None, refl, ap, ◌∙◌, subst}
use Rattle.std.specs.List.{count_by}
use Rattle.subj.specs.Answers.{IsAnswered}
use Rattle.hub_core.specs.State as hub
use Rattle.hub_core.specs.Telling.{drain_refusal}
use Rattle.node_parts.specs.declared.told.CollectResult.{CollectResult}
use Rattle.node_law.specs.Events.{Own, Drain}
use Rattle.node_core.specs.Served.{Served, DrainStep, served_of_parts, refusal}
use Rattle.node_core.proofs.Calls.Composed.{step_keeps, same_keeps}
use Rattle.node_core.proofs.Calls.GivenJobs.{hub_refuses, refused_same, refused_as}
use Rattle.node_core.proofs.Calls.Collects.{is_up, drain_done}
use Rattle.node_core.proofs.node.Node.drain.Goals as goal

pub invariant_of-self : goal.invariant_of-self
invariant_of-self g c =
    let old = c.self.inside in
    let race = g.R.Race.contents old.race in
    let left =
    refused_same (drain_refusal old.side.hub) (c.drain.new.self ≡ old.side) c.in-Err.fault c.in-Err.ensures in
    same_keeps (served_of_parts old.side race old.lines.items) (served_of_parts c.drain.new.self race old.lines.items)
    c.self.invariant (λ k. served_of_parts (left k) race old.lines.items)

pub returns-in-Err : goal.returns-in-Err
returns-in-Err g c =
    let old = c.self.inside in
    let race = g.R.Race.contents old.race in
    let before = served_of_parts old.side race old.lines.items in
    let after = served_of_parts c.drain.new.self race old.lines.items in
    let cause = drain_refusal old.side.hub in
    let told = λ (t : CollectResult). DrainStep before t.changes t.frames t.cut.items after in
    subst (λ (s : Served).
    IsAnswered (refusal s (Own Drain)) (λ (t : CollectResult). DrainStep s t.changes t.frames t.cut.items after)
    (after ≡ s) c.of_hub.result)
    c.self.view_is
    (hub_refuses cause told (after ≡ before) c.in-Err.fault c.of_hub.result c.of_hub.ensures
    (refused_as cause cause (c.drain.new.self ≡ old.side) (after ≡ before) c.in-Err.fault refl
    (λ left. λ k. served_of_parts (left k) race old.lines.items) c.in-Err.ensures))

pub invariant_of-self-2 : goal.invariant_of-self-2
invariant_of-self-2 g c =
    let old = c.self.inside in
    let race = g.R.Race.contents old.race in
    let ups = c.up_count-frames.ensures ∙ ap (λ (h : hub.State). count_by is_up h.peers) c.hub.ensures.state in
    let does = drain_done old.side c.drain.new.self race old.lines.items c.up_count-frames.result c.in-Ok.cut.items
    c.in-Ok.ensures.1 ups in
    step_keeps (served_of_parts old.side race old.lines.items) (Own Drain) false
    (served_of_parts c.drain.new.self race old.lines.items) c.self.invariant does.step

pub returns : goal.returns
returns g c =
    let old = c.self.inside in
    let race = g.R.Race.contents old.race in
    let ups = c.up_count-frames.ensures ∙ ap (λ (h : hub.State). count_by is_up h.peers) c.hub.ensures.state in
    let does = drain_done old.side c.drain.new.self race old.lines.items c.up_count-frames.result c.in-Ok.cut.items
    c.in-Ok.ensures.1 ups in
    subst (λ (s : Served).
    (refusal s (Own Drain) ≡ None)
    × DrainStep s 1 c.up_count-frames.result c.in-Ok.cut.items (served_of_parts c.drain.new.self race old.lines.items))
    c.self.view_is (does.step.step.cause, does)
