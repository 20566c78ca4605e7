use Rattle.std.proofs.Common.{◌≡◌, Option, Bor, List, ℕ, Some, ap, sym, ◌∙◌}
use Rattle.std.specs.Option.{option_copied}
use Rattle.interest.proofs.Matching.Levels.{is_other, is_further, is_longer, is_shorter}
use Rattle.interest.proofs.sights.first_level.Goals as goal

pub returns-then-not-takes_token : goal.returns-then-not-takes_token
returns-then-not-takes_token c =
    is_other c.args.rest.now c.args.subject.now c.split_token.result.0.now c.split_token-2.result.0.now
    (option_copied c.split_token.result.1) (option_copied c.split_token-2.result.1) c.split_token.ensures.cut
    c.split_token-2.ensures.cut (c.takes_rest.ensures.other c.if-takes_rest.false)
    (sym c.takes_token.ensures ∙ c.if-not-takes_token.true)

pub returns-in-Some-Some : goal.returns-in-Some-Some
returns-in-Some-Some c =
    let left : option_copied c.split_token-2.result.1 ≡ Some c.in-Some-Some.left.now =
    ap (λ (o : Option (Bor (List ℕ))). option_copied o) c.in-Some-Some.is-1 in
    let shorter = rw c.in-Some-Some.is-1 at c.split_token-2.ensures.shorter in
    is_further c.args.rest.now c.args.subject.now c.split_token.result.0.now c.split_token-2.result.0.now
    (option_copied c.split_token.result.1) (option_copied c.split_token-2.result.1) c.split_token.ensures.cut
    c.split_token-2.ensures.cut c.in-Some-Some.field-0-0.now c.in-Some-Some.left
    (sym c.takes_token.ensures ∙ c.if-not-takes_token.false)
    (ap (λ (o : Option (Bor (List ℕ))). option_copied o) c.in-Some-Some.is-0) left shorter

pub returns-in-Some-None : goal.returns-in-Some-None
returns-in-Some-None c =
    is_longer c.args.rest.now c.args.subject.now c.split_token.result.0.now c.split_token-2.result.0.now
    (option_copied c.split_token.result.1) (option_copied c.split_token-2.result.1) c.split_token.ensures.cut
    c.split_token-2.ensures.cut c.in-Some-None.field-0-0.now
    (ap (λ (o : Option (Bor (List ℕ))). option_copied o) c.in-Some-None.is-0)
    (ap (λ (o : Option (Bor (List ℕ))). option_copied o) c.in-Some-None.is-1)

pub returns-in-None-Some : goal.returns-in-None-Some
returns-in-None-Some c =
    is_shorter c.args.rest.now c.args.subject.now c.split_token.result.0.now c.split_token-2.result.0.now
    (option_copied c.split_token.result.1) (option_copied c.split_token-2.result.1) c.split_token.ensures.cut
    c.split_token-2.ensures.cut c.in-None-Some.field-0-1.now (c.takes_rest.ensures.other c.if-takes_rest.false)
    (ap (λ (o : Option (Bor (List ℕ))). option_copied o) c.in-None-Some.is-0)
    (ap (λ (o : Option (Bor (List ℕ))). option_copied o) c.in-None-Some.is-1)
