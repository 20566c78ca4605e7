use Rattle.std.proofs.Common.{◌≡◌, ◌<◌, ◌+◌, ◌^◌, Some, sym, ◌∙◌, ap, subst, arith}
use Rattle.std.specs.Prelude.{position, slice_set, slice_index_or, IfSome}
use Rattle.sub_table.specs.declared.Subscription.{Subscription}
use Rattle.sub_table.specs.Subscriptions.{has_serial}
use Rattle.sub_table.proofs.Places.{changed_some, found_at}
use Rattle.sub_table.proofs.ListTableSubTable.count_many.Goals as goal

pub overflow_add-sub : goal.overflow_add-sub
overflow_add-sub c =
    let subs = c.args.self.now.subs.items in
    let at : position (has_serial c.args.serial) subs ≡ Some c.in-Some.place =
    ap (position (has_serial c.args.serial)) (sym c.deref.ensures.value) ∙ sym c.place_of.ensures ∙ c.in-Some.is in
    let sub = c.index_mut-sub.result.now in
    let is : sub ≡ slice_index_or subs c.in-Some.place sub = c.index_mut-sub.ensures.value in
    let fits = subst (λ o. IfSome o (λ (s : Subscription). s.delivered + c.args.count < 2 ^ 64))
    (found_at c.args.serial subs c.in-Some.place sub at is) c.requires in
    omega arith

pub returns-in-Some : goal.returns-in-Some
returns-in-Some c =
    let subs = c.args.self.now.subs.items in
    let change : Subscription → Subscription = λ sub. record sub { delivered = sub.delivered + c.args.count } in
    let at : position (has_serial c.args.serial) subs ≡ Some c.in-Some.place =
    ap (position (has_serial c.args.serial)) (sym c.deref.ensures.value) ∙ sym c.place_of.ensures ∙ c.in-Some.is in
    let sub = c.index_mut-sub.result.now in
    let is : sub ≡ slice_index_or subs c.in-Some.place sub = c.index_mut-sub.ensures.value in
    ap (λ (s : Subscription). slice_set subs c.in-Some.place (change s)) is
    ∙ sym (changed_some c.args.serial change subs c.in-Some.place sub at)
