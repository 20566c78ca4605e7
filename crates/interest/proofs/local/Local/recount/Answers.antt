use Rattle.std.proofs.Common.{◌≡◌, refl, ap, ◌∙◌, arith}
use Rattle.std.proofs.lemmas.Result.{err_from_is_err_and}
use Rattle.interest.specs.Counts.{change_between}
use Rattle.interest.proofs.Counting.Entries.{number_is, number_fits}
use Rattle.interest.proofs.Counting.Deltas.{too_many, no_fault, number_most, counts_are, change_is}
use Rattle.interest.proofs.local.Local.recount.Goals as goal

pub returns-then-count-ge-MAX_WEIGHT : goal.returns-then-count-ge-MAX_WEIGHT
returns-then-count-ge-MAX_WEIGHT c =
    let items = c.self.inside.entries.items in
    let counts = c.args.self.now in
    let entry = c.index.result.now in
    let is = number_is items counts c.args.delta.now.key c.args.place entry c.self.view_is c.requires c.index.ensures in
    let fits = number_fits items counts c.args.place entry c.self.view_is c.self.invariant.valid c.requires.within
    c.index.ensures in
    (too_many counts c.args.delta.now entry.1 c.if-delta.true is fits.0 c.if-count-ge-MAX_WEIGHT.true, refl)

pub number_after-count-requires : goal.number_after-count-requires
number_after-count-requires c =
    let most =
    (number_fits c.self.inside.entries.items c.args.self.now c.args.place c.index.result.now c.self.view_is
    c.self.invariant.valid c.requires.within c.index.ensures).1 in
    omega arith

pub set_count-requires-clause-most : goal.set_count-requires-clause-most
set_count-requires-clause-most c =
    let entry = c.index.result.now in
    let fits = number_fits c.self.inside.entries.items c.args.self.now c.args.place entry c.self.view_is
    c.self.invariant.valid c.requires.within c.index.ensures in
    rw c.number_after-count.ensures (number_most c.args.delta.now.up entry.1 c.else-delta.either fits.1)

pub returns-in_err-change : goal.returns-in_err-change
returns-in_err-change c =
    let items = c.self.inside.entries.items in
    let counts = c.args.self.now in
    let entry = c.index.result.now in
    let is = number_is items counts c.args.delta.now.key c.args.place entry c.self.view_is c.requires c.index.ensures in
    let fits = number_fits items counts c.args.place entry c.self.view_is c.self.invariant.valid c.requires.within
    c.index.ensures in
    let p = err_from_is_err_and c.from_residual.result c.from_residual.ensures.1 in
    rw (p.1, p.2) (no_fault counts c.args.delta.now entry.1 is fits.0 c.else-delta.either, c.in_err-change.ensures.err)

pub returns : goal.returns
returns c =
    let items = c.self.inside.entries.items in
    let counts = c.args.self.now in
    let entry = c.index.result.now in
    let delta = c.args.delta.now in
    let is = number_is items counts delta.key c.args.place entry c.self.view_is c.requires c.index.ensures in
    let fits = number_fits items counts c.args.place entry c.self.view_is c.self.invariant.valid c.requires.within
    c.index.ensures in
    let told : c.in_ok-change.change ≡ change_between delta.key entry.1 c.number_after-count.result =
    c.in_ok-change.ensures.ok.0 ∙ ap (λ n. change_between delta.key n c.number_after-count.result) is in (
      no_fault counts delta entry.1 is fits.0 c.else-delta.either,
      (
        told ∙ change_is counts delta entry.1 c.number_after-count.result is c.number_after-count.ensures,
        c.in_ok-change.ensures.ok.1
            ∙ counts_are counts delta entry.1 c.number_after-count.result is c.number_after-count.ensures,
      ),
    )
