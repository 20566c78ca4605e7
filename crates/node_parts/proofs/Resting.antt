-- A list that has no length has nothing in it.
use Rattle.std.proofs.Common.{◌≡◌, nat_eq, List, [], ◌∷◌, length, arith}
use Rattle.std.proofs.lemmas.Bool.Decides.{nat_tests}
use Rattle.list_laws.specs.Lists.{is_empty}

pub empty_by_length : {A : Type 0} (xs : List A) → nat_eq (length xs) 0 ≡ is_empty xs
empty_by_length [] = grind (arith, nat_tests)
empty_by_length (x ∷ xs) = grind (arith, nat_tests)
