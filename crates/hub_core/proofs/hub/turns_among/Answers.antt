use Rattle.std.proofs.Common.{◌≡◌, ℕ, ◌+◌, ◌≤◌, List, false, length, All, subst, arith}
use Rattle.std.proofs.lemmas.List.{take_all}
use Rattle.claim_race.specs.Race.{is_behind}
use Rattle.hub_core.proofs.Steps.Behind.{none_behind_all}
use Rattle.hub_core.proofs.hub.turns_among.Goals as goal

pub returns-clause-free : goal.returns-clause-free
returns-clause-free c = λ count low.
    let turns = c.args.finished.now in
    let over : length turns ≤ c.loop-last.last-index =
    (let a = c.loop-last-test.false in let b = c.loop-last.auto.last-index-end in omega arith) in
    none_behind_all (c.args.issued + count) turns
    (subst (λ (turns : List ℕ). All (λ last. is_behind (c.args.issued + count) last ≡ false) turns)
    (take_all c.loop-last.last-index turns over) (c.loop-last.invariant.1 count low))
