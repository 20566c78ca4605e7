use Rattle.std.proofs.Common.{[], refl, arith}
use Rattle.std.specs.Option.{option_copied}
use Rattle.hub_core.proofs.Choices.Choosing.{copy_step}
use Rattle.hub_core.proofs.Choices.Filled.{gathered_all}
use Rattle.hub_core.proofs.audience.copies_of.Goals as goal

pub loop-place-preserved : goal.loop-place-preserved
loop-place-preserved c =
    copy_step c.args.names.now c.loop-place.copies.items c.push_copy.new.copies.items c.loop-place.place []
    (option_copied c.get.result) (omega arith) c.get.ensures c.in_ok-push_copy.ensures c.loop-place.invariant

pub returns : goal.returns
returns c =
    gathered_all (λ q names. names) c.args.names.now c.loop-place.place c.loop-place.copies.items c.args.names.now refl
    (omega arith) c.loop-place.invariant
