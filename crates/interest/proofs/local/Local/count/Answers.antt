use Rattle.std.proofs.Common.{◌≡◌, false, sym, ap, ◌∙◌, subst, arith}
use Rattle.subj.specs.declared.keys.Key.{Key}
use Rattle.subj.specs.Keys.{key_cmp}
use Rattle.interest.specs.Places.{IsPlaceOf, IsGapFor}
use Rattle.interest.specs.Counts.{Counts, with_count, is_full}
use Rattle.interest.proofs.Counting.Entries.{number_is, number_fits}
use Rattle.interest.proofs.Counting.Deltas.{counts_are}
use Rattle.interest.proofs.Counting.InPlace.{not_refused, number_left, nothing_taken, opens_one, has_place, is_counted, is_first, one_more, not_none}
use Rattle.interest.proofs.local.Local.count.Goals as goal

pub number_after-count-requires : goal.number_after-count-requires
number_after-count-requires c =
    let counts = c.args.self.now in
    let at = subst (λ (counts : Counts). IsPlaceOf key_cmp c.args.delta.now.key counts c.in-Ok.place)
    (c.deref.ensures.value ∙ c.self.view_is) c.in-Ok.ensures in
    let most =
    (number_fits c.self.inside.entries.items counts c.in-Ok.place c.index.result.now c.self.view_is
    c.self.invariant.valid at.within c.index.ensures).1 in
    omega arith

pub write_count-requires-clause-most : goal.write_count-requires-clause-most
write_count-requires-clause-most c =
    let counts = c.args.self.now in
    let delta = c.args.delta.now in
    let entry = c.index.result.now in
    let at = subst (λ (counts : Counts). IsPlaceOf key_cmp delta.key counts c.in-Ok.place)
    (c.deref.ensures.value ∙ c.self.view_is) c.in-Ok.ensures in
    let fits = number_fits c.self.inside.entries.items counts c.in-Ok.place entry c.self.view_is c.self.invariant.valid
    at.within c.index.ensures in
    let is =
    number_is c.self.inside.entries.items counts delta.key c.in-Ok.place entry c.self.view_is at c.index.ensures in
    rw c.number_after-count.ensures
    (number_left delta _ _ entry.1 (not_refused counts delta entry.1 is c.requires.taken) fits.1)

pub returns-in-Ok-clause-counts : goal.returns-in-Ok-clause-counts
returns-in-Ok-clause-counts c =
    let counts = c.args.self.now in
    let delta = c.args.delta.now in
    let entry = c.index.result.now in
    let at = subst (λ (counts : Counts). IsPlaceOf key_cmp delta.key counts c.in-Ok.place)
    (c.deref.ensures.value ∙ c.self.view_is) c.in-Ok.ensures in
    let is =
    number_is c.self.inside.entries.items counts delta.key c.in-Ok.place entry c.self.view_is at c.index.ensures in
    c.write_count.ensures ∙ counts_are counts delta entry.1 c.number_after-count.result is c.number_after-count.ensures

pub returns-in-Ok-clause-left : goal.returns-in-Ok-clause-left
returns-in-Ok-clause-left c =
    let counts = c.args.self.now in
    let delta = c.args.delta.now in
    let entry = c.index.result.now in
    let at = subst (λ (counts : Counts). IsPlaceOf key_cmp delta.key counts c.in-Ok.place)
    (c.deref.ensures.value ∙ c.self.view_is) c.in-Ok.ensures in
    let fits = number_fits c.self.inside.entries.items counts c.in-Ok.place entry c.self.view_is c.self.invariant.valid
    at.within c.index.ensures in
    let is =
    number_is c.self.inside.entries.items counts delta.key c.in-Ok.place entry c.self.view_is at c.index.ensures in
    nothing_taken counts delta entry.1 c.args.opened.now.items is fits.0

pub put_new-requires-clause-gap : goal.put_new-requires-clause-gap
put_new-requires-clause-gap c =
    let counts = c.args.self.now in
    let delta = c.args.delta.now in
    let at = subst (λ (counts : Counts). IsGapFor key_cmp delta.key counts c.in-Err.place)
    (c.deref.ensures.value ∙ c.self.view_is) c.in-Err.ensures in
    let key = is_first delta.key c.in-Some.key c.args.opened.now.items c.pop_front.new.self.items
    (c.requires.next (opens_one counts delta c.in-Err.place at c.requires.taken)) c.in-Some.ensures.items in
    subst (λ (key : Key). IsGapFor key_cmp key counts c.in-Err.place) key at

pub put_new-requires-clause-room : goal.put_new-requires-clause-room
put_new-requires-clause-room c =
    let counts = c.args.self.now in
    let delta = c.args.delta.now in
    let at = subst (λ (counts : Counts). IsGapFor key_cmp delta.key counts c.in-Err.place)
    (c.deref.ensures.value ∙ c.self.view_is) c.in-Err.ensures in
    let key = is_first delta.key c.in-Some.key c.args.opened.now.items c.pop_front.new.self.items
    (c.requires.next (opens_one counts delta c.in-Err.place at c.requires.taken)) c.in-Some.ensures.items in
    subst (λ (key : Key). is_full counts key ≡ false) key (has_place counts delta c.in-Err.place at c.requires.taken)

pub returns-in-Some-clause-counts : goal.returns-in-Some-clause-counts
returns-in-Some-clause-counts c =
    let counts = c.args.self.now in
    let delta = c.args.delta.now in
    let at = subst (λ (counts : Counts). IsGapFor key_cmp delta.key counts c.in-Err.place)
    (c.deref.ensures.value ∙ c.self.view_is) c.in-Err.ensures in
    let key = is_first delta.key c.in-Some.key c.args.opened.now.items c.pop_front.new.self.items
    (c.requires.next (opens_one counts delta c.in-Err.place at c.requires.taken)) c.in-Some.ensures.items in
    c.put_new.ensures
    ∙ ap (λ (key : Key). with_count counts key 1) (sym key)
    ∙ is_counted counts delta c.in-Err.place at c.requires.taken

pub returns-in-Some-clause-left : goal.returns-in-Some-clause-left
returns-in-Some-clause-left c =
    let counts = c.args.self.now in
    let delta = c.args.delta.now in
    let at = subst (λ (counts : Counts). IsGapFor key_cmp delta.key counts c.in-Err.place)
    (c.deref.ensures.value ∙ c.self.view_is) c.in-Err.ensures in
    let opens = opens_one counts delta c.in-Err.place at c.requires.taken in
    let key = is_first delta.key c.in-Some.key c.args.opened.now.items c.pop_front.new.self.items
    (c.requires.next opens) c.in-Some.ensures.items in
    one_more counts delta c.in-Some.key c.args.opened.now.items c.pop_front.new.self.items opens key
    c.in-Some.ensures.items

pub returns-in_default-clause-counts : goal.returns-in_default-clause-counts
returns-in_default-clause-counts c =
    let counts = c.args.self.now in
    let delta = c.args.delta.now in
    let at = subst (λ (counts : Counts). IsGapFor key_cmp delta.key counts c.in-Err.place)
    (c.deref.ensures.value ∙ c.self.view_is) c.in-Err.ensures in
    absurd (not_none c.pop_front.result delta.key c.args.opened.now.items _ c.args.opened.now.ok.0
    (c.requires.next (opens_one counts delta c.in-Err.place at c.requires.taken)) c.pop_front.ensures.variant.1
    c.in_default.is)
