use Rattle.std.proofs.Common.{◌≡◌, ◌≤◌, ◌+◌, length, ap, sym, ◌∙◌, subst, arith}
use Rattle.std.specs.Prelude.{vec_capacity}
use Rattle.subj.specs.declared.limits.TheConstants.{MAX_KEYS}
use Rattle.interest.specs.Counts.{Counts, IsInterest, total_cost}
use Rattle.interest.specs.Recounts.{with_numbers}
use Rattle.interest.proofs.Counting.Numbered.{stays_valid, told_at_once}
use Rattle.interest.proofs.local.Local.commit_many.Goals as goal

pub invariant_of-self : goal.invariant_of-self
invariant_of-self c =
    let counts = c.args.self.now in
    let deltas = c.args.deltas.now in
    let numbers = c.args.many.numbers.entries in
    let is = subst IsInterest c.self.view_is c.self.invariant.valid in
    let valid = stays_valid deltas counts is c.requires.taken in
    let items = c.entries_after.ensures.items ∙ ap (λ v. with_numbers v.items numbers) c.replace-entries.ensures.value
    ∙ ap (λ (l : Counts). with_numbers l numbers) c.self.view_is
    ∙ told_at_once counts deltas numbers is valid c.requires.planned.0 in
    record {
      valid = subst IsInterest (sym items) valid;
      cost_is = c.requires.planned.1 ∙ ap total_cost (sym items);
      room =
          (let capacity : vec_capacity c.entries_after.result ≡ vec_capacity c.args.many.room =
          c.entries_after.ensures.capacity in
          let fits : MAX_KEYS + length numbers ≤ vec_capacity c.args.many.room = c.requires.planned.3 in
          omega arith);
    }

pub returns : goal.returns
returns c =
    let counts = c.args.self.now in
    let deltas = c.args.deltas.now in
    let numbers = c.args.many.numbers.entries in
    let is = subst IsInterest c.self.view_is c.self.invariant.valid in
    let valid = stays_valid deltas counts is c.requires.taken in
    c.entries_after.ensures.items
    ∙ ap (λ v. with_numbers v.items numbers) c.replace-entries.ensures.value
    ∙ ap (λ (l : Counts). with_numbers l numbers) c.self.view_is
    ∙ told_at_once counts deltas numbers is valid c.requires.planned.0
