use Rattle.std.proofs.Common.{◌≡◌, ◌+◌, ◌<◌, ◌&&◌, length, drop, sym, ap, ◌∙◌, arith}
use Rattle.interest.specs.Heard.{Heard}
use Rattle.interest.specs.Views.{same_views, told_view}
use Rattle.interest.proofs.SameViews.{other_lengths, told_next, told_end}
use Rattle.interest.proofs.views.View.tells.Goals as goal

pub returns-then-len : goal.returns-then-len
returns-then-len c =
    let keys = c.self.inside.keys.items in
    let counts = c.counts.inside.entries.items in
    sym (other_lengths keys counts (λ same. c.if-len.true (omega (arith, c.len.ensures, c.len-2.ensures, same))))
    ∙ ap (λ (v : Heard). same_views v.keys (told_view counts)) c.self.view_is
    ∙ ap (λ es. same_views c.args.self.now.keys (told_view es)) c.counts.view_is

pub loop-place-preserved : goal.loop-place-preserved
loop-place-preserved c =
    let keys = c.deref-weighted-items.result.now in
    let counts = c.counts.inside.entries.items in
    let i = c.loop-place.place in
    let long : length keys ≡ length c.self.inside.keys.items = ap length c.deref-weighted-items.ensures.value in
    let lt2 : i < length counts =
    omega (arith, c.loop-place-test.true, long, c.len.ensures, c.len-2.ensures, c.if-len.false) in
    c.loop-place.invariant
    ∙ told_next keys counts i c.weighted-item.result c.index-entry.result.now c.loop-place-test.true lt2
    c.weighted-item.is c.index-entry.ensures
    ∙ ap (λ b. b && same_views (drop (i + 1) keys) (drop (i + 1) (told_view counts)))
    (sym c.is_as_counted.ensures ∙ c.if-not-is_as_counted.false)

pub returns-then-not-is_as_counted : goal.returns-then-not-is_as_counted
returns-then-not-is_as_counted c =
    let keys = c.deref-weighted-items.result.now in
    let counts = c.counts.inside.entries.items in
    let i = c.loop-place.place in
    let long : length keys ≡ length c.self.inside.keys.items = ap length c.deref-weighted-items.ensures.value in
    let lt2 : i < length counts =
    omega (arith, c.loop-place-test.true, long, c.len.ensures, c.len-2.ensures, c.if-len.false) in
    let other = c.loop-place.invariant
    ∙ told_next keys counts i c.weighted-item.result c.index-entry.result.now c.loop-place-test.true lt2
    c.weighted-item.is c.index-entry.ensures
    ∙ ap (λ b. b && same_views (drop (i + 1) keys) (drop (i + 1) (told_view counts)))
    (sym c.is_as_counted.ensures ∙ c.if-not-is_as_counted.true) in
    sym other
    ∙ ap (λ ks. same_views ks (told_view counts)) c.deref-weighted-items.ensures.value
    ∙ ap (λ (v : Heard). same_views v.keys (told_view counts)) c.self.view_is
    ∙ ap (λ es. same_views c.args.self.now.keys (told_view es)) c.counts.view_is

pub returns : goal.returns
returns c =
    let keys = c.deref-weighted-items.result.now in
    let counts = c.counts.inside.entries.items in
    let i = c.loop-place.place in
    let long : length keys ≡ length c.self.inside.keys.items = ap length c.deref-weighted-items.ensures.value in
    let same : length keys ≡ length counts = omega (arith, long, c.len.ensures, c.len-2.ensures, c.if-len.false) in
    let all = c.loop-place.invariant ∙ told_end keys counts i same c.loop-place-test.false in
    sym all
    ∙ ap (λ ks. same_views ks (told_view counts)) c.deref-weighted-items.ensures.value
    ∙ ap (λ (v : Heard). same_views v.keys (told_view counts)) c.self.view_is
    ∙ ap (λ es. same_views c.args.self.now.keys (told_view es)) c.counts.view_is
