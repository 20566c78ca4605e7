-- What it says that a first place is found, or none.
use Rattle.std.proofs.Common.{◌≡◌, ℕ, ◌<◌, ◌≤◌, cond, Some, None, arith}
use Rattle.std.specs.Prelude.{nat_lt}
use Rattle.std.proofs.lemmas.Bool.Decides.{nat_tests}

pub not_below : (a b : ℕ) → cond (nat_lt a b) (Some a) None ≡ None → b ≤ a
not_below a b e = grind (arith, nat_tests)

pub below : (a b i : ℕ) → cond (nat_lt a b) (Some a) None ≡ Some i → (a < b) × (a ≡ i)
below a b i e = grind (arith, nat_tests)
