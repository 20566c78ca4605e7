use Rattle.std.proofs.Common.{false, sym, ◌∙◌}
use Rattle.hub_core.proofs.Steps.Behind.{looked_at, some_busy_at, none_busy_from}
use Rattle.hub_core.proofs.hub.busy_among.Goals as goal

pub loop-place-preserved : goal.loop-place-preserved
loop-place-preserved c =
    sym
    (looked_at c.args.issued c.args.finished.now c.loop-place.place c.index-finished-place.result false
    c.loop-place-test.true c.index-finished-place.is (sym c.is_late.ensures ∙ c.if-is_late.false))
    ∙ c.loop-place.invariant

pub returns-then-is_late : goal.returns-then-is_late
returns-then-is_late c =
    sym
    (some_busy_at c.args.issued c.args.finished.now c.loop-place.place c.index-finished-place.result
    c.loop-place-test.true c.index-finished-place.is (sym c.is_late.ensures ∙ c.if-is_late.true)
    c.loop-place.invariant)

pub returns : goal.returns
returns c =
    sym (none_busy_from c.args.issued c.args.finished.now c.loop-place.place c.loop-place-test.false
    c.loop-place.invariant)
