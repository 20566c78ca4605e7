use Rattle.std.proofs.Common.{refl, sym, ap, ◌∙◌, subst}
use Rattle.subj.specs.Keys.{key_cmp}
use Rattle.interest.specs.Places.{IsGapFor}
use Rattle.interest.specs.Counts.{Counts, count_after}
use Rattle.interest.proofs.Counting.Entries.{no_count}
use Rattle.interest.proofs.Counting.Deltas.{answered, opening_of_unknown, closing_of_unknown, counts_are, change_is}
use Rattle.interest.proofs.local.Local.apply.Goals as goal

pub returns-in-Err-true : goal.returns-in-Err-true
returns-in-Err-true c =
    let counts = c.args.self.now in
    let delta = c.args.delta.now in
    let at = subst (λ (counts : Counts). IsGapFor key_cmp delta.key counts c.in-Err-true.place)
    (c.deref.ensures.value ∙ c.self.view_is) c.in-Err-true.ensures in
    let none = no_count counts delta.key c.in-Err-true.place at in
    let one = sym (ap (λ up. count_after up 0) c.in-Err-true.is-1) in
    answered _ (sym (opening_of_unknown counts delta c.in-Err-true.is-1 none))
    (λ change h. (h.0 ∙ change_is counts delta 0 1 none one, h.1 ∙ counts_are counts delta 0 1 none one)) c.add.result
    c.add.ensures

pub returns-in-Err-false : goal.returns-in-Err-false
returns-in-Err-false c =
    let counts = c.args.self.now in
    let delta = c.args.delta.now in
    let at = subst (λ (counts : Counts). IsGapFor key_cmp delta.key counts c.in-Err-false.field-0-0)
    (c.deref.ensures.value ∙ c.self.view_is) c.in-Err-false.ensures in
    (closing_of_unknown counts delta c.in-Err-false.is-1 (no_count counts delta.key c.in-Err-false.field-0-0 at), refl)
