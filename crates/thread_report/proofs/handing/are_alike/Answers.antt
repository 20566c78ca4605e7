use Rattle.std.proofs.Common.{◌≡◌, ◌<◌, [], ◌∷◌, ◌++◌, length, get_or, add-one, arith, sym, ap, ◌∙◌}
use Rattle.thread_report.proofs.Owing.{take_map_more}
use Rattle.thread_report.proofs.handing.are_alike.Goals as goal

pub loop-place-preserved : goal.loop-place-preserved
loop-place-preserved c =
    let l = c.loop-place in
    let n = l.place in
    let a = c.args.a.now in
    let b = c.args.b.now in
    let i = l.invariant in
    let count = i.1 in
    let d = c.index-a-place.result in
    let e = c.index-b-place.result in
    let lt : n < length a = omega arith in
    let lu : n < length b = omega (arith, count) in
    let same : (get_or a n d).now ≡ (get_or b n e).now = ap (λ x. x.now) (sym c.index-a-place.is)
    ∙ sym c.as_slice.ensures ∙ c.are_same.ensures c.if-not-are_same.false ∙ c.as_slice-in-loop-place.ensures
    ∙ ap (λ x. x.now) c.index-b-place.is in (
      rw add-one (take_map_more (λ x. x.now) a n d lt ∙ (λ k. i.0 k ++ same k ∷ [])
          ∙ sym (take_map_more (λ x. x.now) b n e lu)),
      count,
    )
