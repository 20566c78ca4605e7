use Rattle.std.proofs.Common.{◌≡◌, Some, sym, ◌∙◌, ap}
use Rattle.std.specs.Prelude.{position, slice_set, slice_index_or}
use Rattle.sub_table.specs.declared.Subscription.{Subscription}
use Rattle.sub_table.specs.Subscriptions.{has_serial}
use Rattle.sub_table.proofs.Places.{changed_some}
use Rattle.sub_table.proofs.ListTableSubTable.set_max.Goals as goal

pub returns-in-Some : goal.returns-in-Some
returns-in-Some c =
    let subs = c.args.self.now.subs.items in
    let change : Subscription → Subscription = λ sub. record sub { max = c.args.max } in
    let at : position (has_serial c.args.serial) subs ≡ Some c.in-Some.place =
    ap (position (has_serial c.args.serial)) (sym c.deref.ensures.value) ∙ sym c.place_of.ensures ∙ c.in-Some.is in
    let sub = c.index_mut-sub.result.now in
    let is : sub ≡ slice_index_or subs c.in-Some.place sub = c.index_mut-sub.ensures.value in
    ap (λ (s : Subscription). slice_set subs c.in-Some.place (change s)) is
    ∙ sym (changed_some c.args.serial change subs c.in-Some.place sub at)
