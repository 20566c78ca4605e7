use Rattle.std.proofs.Common.{◌+◌, ◌-◌, ◌++◌, ◌∷◌, [], ℕ, set, refl, ap, ◌∙◌, arith}
use Rattle.subj.specs.declared.limits.TheConstants.{MAX_COUNTER}
use Rattle.claim_cells.proofs.SeatSteps.Rounds.{round_start, round_more, finished_more}
use Rattle.claim_cells.proofs.cells.Cells.look_at_all.Goals as goal

pub loop-before-init : goal.loop-before-init
loop-before-init c = (refl, ([], round_start c.args.place.now.me c.requires.hub, c.new-finished.ensures))

pub loop-before-preserved : goal.loop-before-preserved
loop-before-preserved c =
    let inv = c.loop-before.invariant in
    let found = inv.1.0 in
    let b : ℕ = c.loop-before.before in
    let look = c.load_finished in
    let n = look.result in (
      look.ensures.table ∙ inv.0,
      (
        found ++ n ∷ [],
        round_more c.args.place.now.me b found c.loop-before.place.me inv.1.1 MAX_COUNTER n look.new.place.me
            look.ensures.told,
        c.set.ensures ∙ ap (λ l. set l (b + 1 - 1) n) inv.1.2 ∙ finished_more found b n inv.1.1.0.0 (omega arith),
      ),
    )
