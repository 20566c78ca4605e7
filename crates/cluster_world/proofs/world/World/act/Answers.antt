use Rattle.std.proofs.Common.{◌∙◌, sym, ap, subst}
use Rattle.std.specs.List.{flat_map}
use Rattle.std.specs.Option.{option_map}
use Rattle.node_core.specs.InCode.{answer_of}
use Rattle.node_core.specs.Lent.{asked_of}
use Rattle.cluster_world.specs.InCode.{event_of, items_of}
use Rattle.world_law.specs.Outcomes.{Done}
use Rattle.cluster_world.specs.Value.{Listed, listed_of, listed_with, value_of_parts, world_of, IsStepped}
use Rattle.cluster_world.proofs.Clusters.Kept.{slot_free, made_steps, made_keeps}
use Rattle.cluster_world.proofs.world.World.act.Goals as goal

pub step-requires-clause-cause : goal.step-requires-clause-cause
step-requires-clause-cause g c =
    let o = c.self.inside in
    let is = c.asked_by-asked.ensures (world_of o.step o.nodes (listed_of o.lists))
    (ap (λ (t : Listed). t.sent) (sym c.make_room.ensures.same) ∙ ap (flat_map items_of) (sym c.deref.ensures.value)) in
    slot_free o.server o.step o.nodes (listed_of o.lists) c.args.self.now c.self.view_is c.self.invariant c.args.n
    (event_of c.args.event.now) (option_map asked_of c.asked_by-asked.result) c.requires.at is c.requires.cause

pub invariant_of-self-2 : goal.invariant_of-self-2
invariant_of-self-2 g c =
    let o = c.self.inside in
    let made = c.in-Ok.made in
    let is = c.asked_by-asked.ensures (world_of o.step o.nodes (listed_of o.lists))
    (ap (λ (t : Listed). t.sent) (sym c.make_room.ensures.same) ∙ ap (flat_map items_of) (sym c.deref.ensures.value)) in
    made_keeps o.server o.step o.nodes (listed_of o.lists) c.args.self.now c.self.view_is c.self.invariant
    c.puts_are_placed.ensures c.new_entries_were_put.ensures c.carried_lives_are_open.ensures
    c.steps_keep_worlds_carried.ensures c.args.n c.args.now c.step.new.self (listed_of c.keep-answer.new.self)
    (event_of c.args.event.now) (option_map asked_of c.asked_by-asked.result) made c.requires.now c.requires.at is
    c.requires.cause c.in-Ok.ensures.ok
    (c.keep-answer.ensures.lists
    ∙ ap (listed_with (record { step = c.args.now; node = c.args.n; inc = made.inc }) made.noted made.did)
    c.make_room.ensures.same)

pub returns-clause-ok : goal.returns-clause-ok
returns-clause-ok g c =
    let o = c.self.inside in
    let made = c.in-Ok.made in
    let is = c.asked_by-asked.ensures (world_of o.step o.nodes (listed_of o.lists))
    (ap (λ (t : Listed). t.sent) (sym c.make_room.ensures.same) ∙ ap (flat_map items_of) (sym c.deref.ensures.value)) in
    subst (λ t.
    IsStepped c.args.self.now (event_of c.args.event.now) (Done (answer_of t))
    (value_of_parts o.server c.args.now c.step.new.self (listed_of c.keep-answer.new.self)))
    (sym c.keep-answer.ensures.answer)
    (made_steps o.server o.step o.nodes (listed_of o.lists) c.args.self.now c.self.view_is c.self.invariant
    c.puts_are_placed.ensures c.new_entries_were_put.ensures c.carried_lives_are_open.ensures c.args.n c.args.now
    c.step.new.self (listed_of c.keep-answer.new.self) (event_of c.args.event.now)
    (option_map asked_of c.asked_by-asked.result) made c.requires.now c.requires.at is c.requires.cause
    c.in-Ok.ensures.ok
    (c.keep-answer.ensures.lists
    ∙ ap (listed_with (record { step = c.args.now; node = c.args.n; inc = made.inc }) made.noted made.did)
    c.make_room.ensures.same))
