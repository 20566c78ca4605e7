use Rattle.std.proofs.Common.{Bool, List, map, sym, ◌∙◌}
use Rattle.world_law.specs.State.{Publication, Life}
use Rattle.placement_audit.specs.InCode.{lent_life, lent_publication, placement_of}
use Rattle.placement_audit.specs.Tests.{any_due}
use Rattle.placement_audit.proofs.Anys.{any_here, any_next}
use Rattle.placement_audit.proofs.audits.any_owed.Goals as goal

pub returns-then-branch : goal.returns-then-branch
returns-then-branch c =
    let p = placement_of c.args.placement.now in
    let lives : List Life = map lent_life c.args.lives.now in
    let test : Publication → Bool = λ s. any_due s p lives in
    sym (any_here test lent_publication c.args.sources.now c.loop-source.source-index c.source-item.result
    c.loop-source-test.true c.source-item.is (sym c.in_ok-any_due.ensures ∙ c.if-branch.true))
    ∙ c.loop-source.invariant

pub loop-source-preserved : goal.loop-source-preserved
loop-source-preserved c =
    let p = placement_of c.args.placement.now in
    let lives : List Life = map lent_life c.args.lives.now in
    let test : Publication → Bool = λ s. any_due s p lives in
    sym (any_next test lent_publication c.args.sources.now c.loop-source.source-index c.source-item.result
    c.loop-source-test.true c.source-item.is (sym c.in_ok-any_due.ensures ∙ c.if-branch.false))
    ∙ c.loop-source.invariant
