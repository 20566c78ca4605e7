use Rattle.std.proofs.Common.{◌≡◌, ◌<◌, ◌≤◌, [], length, get_or, sym, subst, ◌∙◌, ⊎_elim, arith}
use Rattle.std.proofs.lemmas.Bool.{cases_lt, not-false}
use Rattle.std.proofs.lemmas.List.{ext_get_or, get_or_default}
use Rattle.std.proofs.lemmas.Slice.Eq.{bytes_eq-Decides}
use Rattle.job_block.proofs.kept.are_same.Goals as goal

pub loop-place-init : goal.loop-place-init
loop-place-init c k low = absurd (omega (arith, low))

pub loop-place-preserved : goal.loop-place-preserved
loop-place-preserved c k low =
    let names = c.args.names.now in
    let others = c.args.others.now in
    let place = c.loop-place.place in
    let long : length names ≡ length others = c.if-names-others.false in
    let within : place < length names = c.loop-place-test.true in
    let bytes : c.bytes.result.now ≡ c.bytes-in-loop-place.result.now =
    (bytes_eq-Decides c.bytes.result.now c.bytes-in-loop-place.result.now).0
    (not-false _ (sym c.ne.ensures ∙ c.if-ne.false)) in
    let here : get_or names place [] ≡ get_or others place [] =
    get_or_default names place [] c.index-names-place.result within
    ∙ sym c.index-names-place.is
    ∙ sym c.bytes.ensures.same
    ∙ bytes
    ∙ c.bytes-in-loop-place.ensures.same
    ∙ c.index-others-place.is
    ∙ get_or_default others place c.index-others-place.result [] (omega (arith, long, within)) in
    ⊎_elim (λ (below : k < place). c.loop-place.invariant k below)
    (λ (above : place ≤ k).
    let last : place ≡ k = omega (arith, low, above) in
    subst (λ n. get_or names n [] ≡ get_or others n []) last here)
    (cases_lt k place)

pub returns : goal.returns
returns c done =
    let past = c.loop-place-test.false in
    ext_get_or [] c.args.names.now c.args.others.now c.if-names-others.false (λ k low.
    c.loop-place.invariant k (omega (arith, past, low)))
