use Rattle.std.proofs.Common.{◌≡◌, ◌+◌, ◌-◌, ◌++◌, ◌∷◌, [], ℕ, set, length-append, refl, ap, ◌∙◌, arith}
use Rattle.claim_cells.proofs.SeatSteps.Rounds.{finished_more, found_more}
use Rattle.claim_cells.proofs.closing.FinalTable.finished.Goals as goal

pub loop-before-init : goal.loop-before-init
loop-before-init c = ([], refl, (λ s low. absurd (omega arith)), c.new-finished.ensures)

pub loop-before-preserved : goal.loop-before-preserved
loop-before-preserved c =
    let inv = c.loop-before.invariant in
    let found = inv.0 in
    let b : ℕ = c.loop-before.before in
    let n = c.turn.result in (
      found ++ n ∷ [],
      length-append found (n ∷ []) ∙ (let e = inv.1 in omega arith),
      found_more found c.args.self.now b n inv.1 inv.2 c.turn.ensures,
      c.set.ensures ∙ ap (λ l. set l (b + 1 - 1) n) inv.3 ∙ finished_more found b n inv.1 (omega arith),
    )

pub returns : goal.returns
returns c =
    let inv = c.loop-before.invariant in
    let over : c.loop-before.before ≡ c.args.shards =
    (let a = c.loop-before-test.false in let b = c.loop-before.auto.before-end in omega arith) in
    (inv.0, inv.1 ∙ over, (λ s low. inv.2 s (omega arith)), inv.3)
