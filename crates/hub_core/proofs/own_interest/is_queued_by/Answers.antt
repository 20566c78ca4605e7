use Rattle.std.proofs.Common.{◌+◌, ◌||◌, Bool, sym, ap, ◌∙◌, drop}
use Rattle.std.specs.List.{list_any}
use Rattle.std.proofs.lemmas.List.{at_drop_more}
use Rattle.subj.specs.declared.keys.Delta.{Delta}
use Rattle.hub_core.specs.InMind.{is_of_queue}
use Rattle.hub_core.proofs.own_interest.is_queued_by.Goals as goal

pub loop-delta-preserved : goal.loop-delta-preserved
loop-delta-preserved c =
    let deltas = c.args.deltas.now in
    let i = c.loop-delta.delta-index in
    let delta = c.delta-item.result in
    sym
    (at_drop_more (list_any is_of_queue) deltas i delta c.loop-delta-test.true
    ∙ ap (λ (d : Delta). is_of_queue d || list_any is_of_queue (drop (i + 1) deltas)) (sym c.delta-item.is)
    ∙ ap (λ (is : Bool). is || list_any is_of_queue (drop (i + 1) deltas))
    (sym c.is_of_queue.ensures ∙ c.if-is_of_queue.false))
    ∙ c.loop-delta.invariant
