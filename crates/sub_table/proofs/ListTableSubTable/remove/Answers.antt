use Rattle.std.proofs.Common.{◌≡◌, Some, sym, ◌∙◌, ap}
use Rattle.std.specs.Prelude.{position}
use Rattle.std.proofs.lemmas.Option.{slice_get-get_or}
use Rattle.std.proofs.lemmas.List.Quantifiers.{position-Some}
use Rattle.sub_table.specs.Subscriptions.{has_serial}
use Rattle.sub_table.proofs.Places.{find_some}
use Rattle.sub_table.proofs.ListTableSubTable.remove.Goals as goal

pub returns-in-Some-clause-closed : goal.returns-in-Some-clause-closed
returns-in-Some-clause-closed c =
    let subs = c.args.self.now.subs.items in
    let at : position (has_serial c.args.serial) subs ≡ Some c.in-Some.place =
    ap (position (has_serial c.args.serial)) (sym c.deref.ensures.value) ∙ sym c.place_of.ensures ∙ c.in-Some.is in
    let within = position-Some (has_serial c.args.serial) subs c.in-Some.place c.remove.result at in
    sym (find_some c.args.serial subs c.in-Some.place at
    ∙ slice_get-get_or subs c.in-Some.place c.remove.result within.0 ∙ ap Some (sym c.remove.ensures.value))
