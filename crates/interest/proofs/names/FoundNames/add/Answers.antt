use Rattle.std.proofs.Common.{◌≡◌, ℕ, ◌≤◌, List, [], length, true, false, Option, Some, Bor, refl, sym, ◌∙◌, arith}
use Rattle.std.specs.Prelude.{unwrap_or, is_some, ◌==◌}
use Rattle.std.specs.Option.{option_copied}
use Rattle.std.proofs.lemmas.Bool.Decides.{nat_tests}
use Rattle.subj.specs.declared.limits.TheConstants.{MAX_QUEUE_NAMES}
use Rattle.interest.proofs.Matching.Gathering.{there, put, has_is, put_is, full_is, All-insert}
use Rattle.interest.proofs.names.FoundNames.add.Goals as goal

abbrev name_of : Option (Bor (List ℕ)) → List ℕ
name_of name = unwrap_or (option_copied name) []

all_places : (n m : ℕ) → (n == m) ≡ true → m ≤ n
all_places n m is = grind (arith, nat_tests, is)

pub returns-then-has-clause-gathered : goal.returns-then-has-clause-gathered
returns-then-has-clause-gathered c =
    there c.args.name.now c.args.self.now
    (has_is name_of c.args.name.now c.self.inside.names.items c.as_slice.result.now c.args.self.now c.has.result true
    c.self.view_is c.as_slice.ensures.value c.has.ensures c.if-has.true)

pub returns-then-is_full-clause-gathered : goal.returns-then-is_full-clause-gathered
returns-then-is_full-clause-gathered c =
    let new = has_is name_of c.args.name.now c.self.inside.names.items c.as_slice.result.now c.args.self.now
    c.has.result false c.self.view_is c.as_slice.ensures.value c.has.ensures c.if-has.false in
    full_is name_of c.args.name.now c.self.inside.names.items c.args.self.now MAX_QUEUE_NAMES c.self.view_is
    (all_places (length c.self.inside.names.items) MAX_QUEUE_NAMES (sym c.is_full.ensures.value ∙ c.if-is_full.true))
    new

pub invariant_of-self : goal.invariant_of-self
invariant_of-self c =
    rw c.insert.ensures.items
    (All-insert (λ (name : Option (Bor (List ℕ))). is_some name ≡ true) c.self.inside.names.items
    c.unwrap_or-place.result (Some c.args.name) c.self.invariant refl)

pub returns-clause-gathered : goal.returns-clause-gathered
returns-clause-gathered c =
    let new = has_is name_of c.args.name.now c.self.inside.names.items c.as_slice.result.now c.args.self.now
    c.has.result false c.self.view_is c.as_slice.ensures.value c.has.ensures c.if-has.false in
    put_is name_of (Some c.args.name) c.self.inside.names.items c.as_slice-2.result.now c.insert.new.self.items
    c.args.self.now c.place_behind.result c.len.result c.unwrap_or-place.result c.self.view_is
    c.as_slice-2.ensures.value c.place_behind.ensures c.len.ensures.value c.unwrap_or-place.ensures
    c.insert.ensures.items
    ∙ put c.args.name.now c.args.self.now new
