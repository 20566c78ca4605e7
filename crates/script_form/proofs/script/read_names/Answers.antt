use Rattle.std.proofs.Common.{sym, ◌∙◌}
use Rattle.script_form.specs.Members.{node}
use Rattle.script_form.proofs.Lists.{none_more, one_more}
use Rattle.script_form.proofs.script.read_names.Goals as goal

pub loop-item-preserved : goal.loop-item-preserved
loop-item-preserved c =
    rw c.in_ok-push.ensures.items
    (one_more node c.args.items.now _ _ _ _ c.loop-item-test.true c.item-item.is (sym c.in-Some.ensures)
    ∙ c.loop-item.invariant)

pub returns-in_default : goal.returns-in_default
returns-in_default c =
    sym c.loop-item.invariant
    ∙ none_more node c.args.items.now _ _ _ c.loop-item-test.true c.item-item.is (sym c.in_default.ensures)
