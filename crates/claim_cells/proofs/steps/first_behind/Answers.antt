use Rattle.std.proofs.Common.{◌≡◌, ℕ, ◌+◌, ◌<◌, ◌≤◌, sym, ap, ◌∙◌, subst, arith, Option, Some}
use Rattle.subj.specs.Numbers.{finished_turn}
use Rattle.subj.specs.declared.limits.TheConstants.{WINDOW}
use Rattle.subj.specs.declared.turns.Busy.{Busy}
use Rattle.claim_race.specs.Race.{is_behind}
use Rattle.claim_cells.proofs.SeatSteps.Behind.{NearSome, is_far, is_near, near_more, none_of_some, first_of_some}
use Rattle.claim_cells.proofs.steps.first_behind.Goals as goal

pub loop-before-init : goal.loop-before-init
loop-before-init c = λ k low. absurd (omega arith)

pub returns-then-get : goal.returns-then-get
returns-then-get c =
    let turns = c.args.finished.now in
    let b = c.loop-before.before in
    let n = c.of-turn.result in
    let read : n ≡ finished_turn turns (b + 1) = c.of-turn.ensures in
    let far : n + WINDOW < c.args.issued + 1 =
    (let a = c.get.ensures.same in let z = c.get-in-loop-before.ensures.same in let t = c.if-get.true in omega arith) in
    ap (λ (k : ℕ). let busy : Option Busy = Some (record { shard = b + 1; finished = k }) in busy) read
    ∙ sym (first_of_some c.args.issued c.args.shards turns c.requires b c.loop-before-test.true c.loop-before.invariant
    (ap (is_behind c.args.issued) (sym read) ∙ is_far c.args.issued n far))

pub loop-before-preserved : goal.loop-before-preserved
loop-before-preserved c =
    let turns = c.args.finished.now in
    let n = c.of-turn.result in
    let near : c.args.issued + 1 ≤ n + WINDOW =
    (let a = c.get.ensures.same in
    let z = c.get-in-loop-before.ensures.same in
    let t = c.if-get.false in
    omega arith) in
    near_more c.args.issued c.args.shards turns c.requires c.loop-before.before c.loop-before.invariant
    (ap (is_behind c.args.issued) (sym c.of-turn.ensures) ∙ is_near c.args.issued n near)

pub returns : goal.returns
returns c =
    let over : c.loop-before.before ≡ c.args.shards =
    (let a = c.loop-before-test.false in let b = c.loop-before.auto.before-end in omega arith) in
    sym (none_of_some c.args.issued c.args.shards c.args.finished.now c.requires
    (subst (NearSome c.args.issued c.args.finished.now) over c.loop-before.invariant))
