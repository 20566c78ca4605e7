use Rattle.std.proofs.Common.{◌+◌, Option, Bor, List, ℕ, length, ◌∷◌, codes, ap, sym, ◌∙◌}
use Rattle.std.specs.Option.{option_copied}
use Rattle.std.proofs.lemmas.List.{length-take-le}
use Rattle.subj.specs.Names.{tokens_behind}
use Rattle.interest.proofs.Matching.Levels.{dotted, next_is}
use Rattle.interest.specs.Sights.{nearest}
use Rattle.interest.proofs.sights.next_token.Goals as goal

pub slice_bounds-nearest-end-in-Some-2 : goal.slice_bounds-nearest-end-in-Some-2
slice_bounds-nearest-end-in-Some-2 c =
    let cut = c.split_token.ensures.cut
    ∙ ap (λ (o : Option (Bor (List ℕ))). c.split_token.result.0.now ∷ tokens_behind (option_copied o)) c.in-Some.is in
    sym (length-take-le (length c.split_token.result.0.now + 1) c.args.subject.now
    (dotted c.args.subject.now c.split_token.result.0.now c.in-Some.field-0.now cut).0)

pub returns-in-Some : goal.returns-in-Some
returns-in-Some c =
    let cut = c.split_token.ensures.cut
    ∙ ap (λ (o : Option (Bor (List ℕ))). c.split_token.result.0.now ∷ tokens_behind (option_copied o)) c.in-Some.is in
    c.nearest-in-Some.ensures
    ∙ ap (nearest c.args.rest.now (codes "*."))
    (dotted c.args.subject.now c.split_token.result.0.now c.in-Some.field-0.now cut).1
    ∙ next_is c.args.rest.now c.args.subject.now c.split_token.result.0.now c.in-Some.field-0.now cut
