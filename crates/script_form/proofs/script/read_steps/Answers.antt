use Rattle.std.proofs.Common.{◌∙◌}
use Rattle.script_form.specs.Acts.{step_in}
use Rattle.script_form.proofs.Lists.{one_more}
use Rattle.script_form.proofs.script.read_steps.Goals as goal

pub loop-item-preserved : goal.loop-item-preserved
loop-item-preserved c =
    rw c.in_ok-push.ensures.items
    (one_more step_in c.args.items.now _ _ _ _ c.loop-item-test.true c.item-item.is c.in_ok-step.ensures
    ∙ c.loop-item.invariant)
