-- Shards and the loops that they belong to.
use Rattle.std.proofs.Common.{◌≡◌, ℕ, ◌-◌, true, nat_eq, mod-lt, arith}
use Rattle.std.proofs.lemmas.Bool.Decides.{nat_tests}
use Rattle.server_calls.specs.Loops.{place_of, owns, OneOwns}

same : (n : ℕ) → nat_eq n n ≡ true
same n = grind (arith, nat_tests)

equal : (n m : ℕ) → nat_eq n m ≡ true → m ≡ n
equal n m is = grind (arith, nat_tests)

pub one_owns : OneOwns
one_owns loops shard some = (
  place_of loops shard,
  mod-lt (shard - 1) some,
  same (place_of loops shard),
  λ other is. equal (place_of loops shard) other is,
)
