-- The operation that is found for a field is the one whose word the field is.
use Rattle.std.proofs.Common.{◌≡◌, ℕ, Bool, true, false, ◌||◌, cond, List, [], ◌∷◌, refl, ap, sym, ◌∙◌, subst, arith, Option, Some, None}
use Rattle.std.specs.List.{list_any}
use Rattle.std.specs.Char.{to_ascii_lowercase}
use Rattle.std.specs.Str.{bytes_eq, str_to_ascii_lowercase as lower}
use Rattle.std.proofs.lemmas.Bool.Decides.{nat_tests}
use Rattle.std.proofs.lemmas.Slice.Eq.{bytes_eq-Decides}
use Rattle.list_laws.specs.Lists.{is_empty}
use Rattle.line_fields.specs.Fields.{is_blank, is_word}
use Rattle.line_fields.specs.Spelling.{IsField}
use Rattle.route_frames.specs.declared.line_reading.Operation.{Operation}
use Rattle.route_frames.specs.declared.line_reading.Operation.TheVariants as operation
use Rattle.route_frames.specs.declared.line_reading.NumberedOperation.TheVariants as kind
use Rattle.route_frames.specs.Operations.{word_of, operations, operation_among, operation_of}

found_among_is_named : (among : List Operation) (field : List ℕ) (o : Operation)
    → operation_among among field ≡ Some o
    → is_word (word_of o) field ≡ true
found_among_is_named [] field o is = absurd (cc)
found_among_is_named (first ∷ others) field o is =
    by_test (is_word (word_of first) field) refl is (λ rest. found_among_is_named others field o rest)
  where
    by_test : (b : Bool)
        → is_word (word_of first) field ≡ b
        → cond b (Some first) (operation_among others field) ≡ Some o
        → (operation_among others field ≡ Some o → is_word (word_of o) field ≡ true)
        → is_word (word_of o) field ≡ true
    by_test true named same later = let e : first ≡ o = cc in subst (λ p. is_word (word_of p) field ≡ true) e named
    by_test false named rest later = later rest

-- the operation that is found is one whose word the field is
pub found_is_named : (o : Operation) (field : List ℕ) → operation_of field ≡ Some o → is_word (word_of o) field ≡ true
found_is_named o field is = found_among_is_named operations field o is

abbrev among_letters : List Operation → List ℕ → Option Operation
among_letters [] letters = None
among_letters (o ∷ others) letters = cond (bytes_eq letters (lower (word_of o))) (Some o) (among_letters others letters)

each_is_found : (o : Operation) → among_letters operations (lower (word_of o)) ≡ Some o
each_is_found operation.Info = refl
each_is_found operation.Connect = refl
each_is_found (operation.Numbered kind.Plus) = refl
each_is_found (operation.Numbered kind.Minus) = refl
each_is_found (operation.Numbered kind.Snapshot) = refl
each_is_found (operation.Numbered kind.Msg) = refl
each_is_found (operation.Numbered kind.HeaderMsg) = refl

same_letters : (o : Operation) (field : List ℕ) → is_word (word_of o) field ≡ true → lower field ≡ lower (word_of o)
same_letters o field named = (bytes_eq-Decides (lower field) (lower (word_of o))).0 named

-- and an operation whose word the field is, is found
pub named_is_found : (o : Operation) (field : List ℕ) → is_word (word_of o) field ≡ true → operation_of field ≡ Some o
named_is_found o field named = ap (among_letters operations) (same_letters o field named) ∙ each_is_found o

-- ---- such a word is a field

blank_in_any_case : (x : ℕ) (b : Bool) → is_blank x ≡ b → is_blank (to_ascii_lowercase x) ≡ b
blank_in_any_case x true e = grind (arith, nat_tests)
blank_in_any_case x false e = grind (arith, nat_tests)

blanks_in_any_case : (field : List ℕ) → list_any is_blank (lower field) ≡ list_any is_blank field
blanks_in_any_case [] = refl
blanks_in_any_case (x ∷ xs) =
    ap (λ b. b || list_any is_blank (lower xs)) (blank_in_any_case x (is_blank x) refl)
    ∙ ap (λ b. is_blank x || b) (blanks_in_any_case xs)

empty_in_any_case : (field : List ℕ) → is_empty (lower field) ≡ is_empty field
empty_in_any_case [] = refl
empty_in_any_case (x ∷ xs) = refl

letters_are_field : (o : Operation) → IsField (lower (word_of o))
letters_are_field operation.Info = (refl, refl)
letters_are_field operation.Connect = (refl, refl)
letters_are_field (operation.Numbered kind.Plus) = (refl, refl)
letters_are_field (operation.Numbered kind.Minus) = (refl, refl)
letters_are_field (operation.Numbered kind.Snapshot) = (refl, refl)
letters_are_field (operation.Numbered kind.Msg) = (refl, refl)
letters_are_field (operation.Numbered kind.HeaderMsg) = (refl, refl)

pub word_is_field : (o : Operation) (field : List ℕ) → is_word (word_of o) field ≡ true → IsField field
word_is_field o field named =
    let same = same_letters o field named in
    let is = letters_are_field o in (
      sym (empty_in_any_case field) ∙ ap is_empty same ∙ is.0,
      sym (blanks_in_any_case field) ∙ ap (list_any is_blank) same ∙ is.1,
    )
